-- A Context and the same one with every block renamed: the flags are moved, the stack's entries renamed, the counts the same.
-- Each step of `definition`'s Context keeps this.
use mathlib.Core.Path.{◌≡◌, refl, sym, ap, ◌∙◌, subst}
use Prim.Native.Nat.{ℕ, suc, ◌+◌, ◌≤◌, ◌<◌}
use native.Mathlib.Omega.{arith}
use native.Mathlib.Decide.{ℕ_discrete}
use mathlib.Core.List.{List, [], ◌∷◌, map}
use mathlib.Core.Option
use mathlib.Core.Option.{Option, none, some}
use mathlib.Core.Bool.{Bool, true, false, not}
use lib.ListN.{length, get_or, set, length-set}
use lib.Seq.{get_or-set_same, get_or-set_other, set_out}
use lib.Dec.{eqb, ltb}
use borrow.Author.Tests.{ltb-true, ltb-false}
use Rattle.definition.specs.Result.{refused, unschedule_out_of_order}
use Rattle.definition.specs.Context.{Flags, no_flags, has, add, remove, ControlFlowTarget, target_if, target_switch, target_case, target_loop, target_block}
use Rattle.definition.specs.Context.{is_loop, loops_of, continues_at, Entry, Context, start, is_scheduled, emit, with_visits, mark_scope_fallthrough}
use Rattle.definition.specs.Context.{schedule_catch_handler, is_blocked, block_asked, blocked_code, scheduled_by, owns, pushed, schedule, unscheduled_by, popped}
use Rattle.definition.specs.Context.{unschedule_top, unschedule, Resolution, break_target_from, get_break_target, continue_target_from}
use Rattle.definition.specs.Context.{get_continue_target}
use Rattle.definition.proofs.Flags.{has_none, length_none}
use Rattle.renaming.proofs.Alike.{Moves, same_test, Alike, alike_unless, alike_pick}

-- ---- what is related

-- the flag of a block stands at its new number
pub record Moved (new : ℕ → ℕ) (s s' : Flags) : Type 0 where
  pub long : length s ≡ 1024
  pub long' : length s' ≡ 1024
  pub flag : (b : ℕ) → has s' (new b) ≡ has s b

abbrev pub renamed_target : (new : ℕ → ℕ) → ControlFlowTarget → ControlFlowTarget
renamed_target new (target_if block) = target_if (new block)
renamed_target new (target_switch block) = target_switch (new block)
renamed_target new (target_case block) = target_case (new block)
renamed_target new (target_loop block continue_block loop_block) = target_loop (new block) (new continue_block) (new loop_block)

abbrev pub renamed_entry : (new : ℕ → ℕ) → Entry → Entry
renamed_entry new entry = record { id = entry.id; target = renamed_target new entry.target; owns_loop = entry.owns_loop }

abbrev pub renamed_resolution : (new : ℕ → ℕ) → Resolution → Resolution
renamed_resolution new found = record { target = new found.target; kind = found.kind; loops = found.loops }

pub record Alongside (new : ℕ → ℕ) (c c' : Context) : Type 0 where
  pub next_id : c'.next_id ≡ c.next_id
  pub emitted : Moved new c.emitted c'.emitted
  pub scope_fallthroughs : Moved new c.scope_fallthroughs c'.scope_fallthroughs
  pub scheduled : Moved new c.scheduled c'.scheduled
  pub catch_handlers : Moved new c.catch_handlers c'.catch_handlers
  pub stack : c'.stack ≡ map (renamed_entry new) c.stack
  pub visits : c'.visits ≡ c.visits

module _ (new : ℕ → ℕ) (m : Moves new) where
  -- ---- flags

  moved_set : (s s' : Flags) (y : ℕ) (v : Bool) → Moved new s s' → Moved new (set s y v) (set s' (new y) v)
  unfolding has
  moved_set s s' y v h = record { long = length-set s y v ∙ h.long; long' = length-set s' (new y) v ∙ h.long'; flag = λ b. by b (ltb y 1024) refl }
    where
      at_y : (b : ℕ) → y < 1024 → Dec (b ≡ y) → get_or (set s' (new y) v) (new b) false ≡ get_or (set s y v) b false
      at_y b l (yes e) =
          subst (λ (z : ℕ). get_or (set s' (new y) v) (new z) false ≡ get_or (set s y v) z false) (sym e)
          (get_or-set_same s' (new y) v false (omega (arith, m.inside y l, h.long')) ∙ sym (get_or-set_same s y v false (omega (arith, h.long))))
      at_y b l (no e) = get_or-set_other s' (new y) (new b) v false (λ q. e (m.one b y q)) ∙ (h.flag b ∙ sym (get_or-set_other s y b v false e))

      by : (b : ℕ) (t : Bool) → ltb y 1024 ≡ t → get_or (set s' (new y) v) (new b) false ≡ get_or (set s y v) b false
      by b true e = at_y b (ltb-true _ _ e) (ℕ_discrete b y)
      by b false e =
          let l : 1024 ≤ y = ltb-false _ _ e in
          rw (set_out s y v (omega (arith, h.long)), set_out s' (new y) v (omega (arith, h.long', m.outside y l))) (h.flag b)

  moved_add : (s s' : Flags) (y : ℕ) → Moved new s s' → Moved new (add s y) (add s' (new y))
  unfolding add
  moved_add s s' y h = moved_set s s' y true h

  moved_remove : (s s' : Flags) (y : ℕ) → Moved new s s' → Moved new (remove s y) (remove s' (new y))
  unfolding remove
  moved_remove s s' y h = moved_set s s' y false h

  moved_none : Moved new no_flags no_flags
  moved_none = record { long = length_none; long' = length_none; flag = λ b. has_none (new b) ∙ sym (has_none b) }

  -- ---- the context

  pub along_start : Alongside new start start
  unfolding start
  along_start = record { next_id = refl; emitted = moved_none; scope_fallthroughs = moved_none; scheduled = moved_none; catch_handlers = moved_none; stack = refl; visits = refl }

  module _ (c c' : Context) (h : Alongside new c c') where
    pub along_scheduled : (b : ℕ) → is_scheduled c' (new b) ≡ is_scheduled c b
    unfolding is_scheduled
    along_scheduled b = rw (h.scheduled.flag b, h.catch_handlers.flag b)

    pub along_emit : (b : ℕ) → Alongside new (emit b c) (emit (new b) c')
    unfolding emit
    along_emit b =
        record {
          next_id = h.next_id;
          emitted = moved_add _ _ b h.emitted;
          scope_fallthroughs = h.scope_fallthroughs;
          scheduled = h.scheduled;
          catch_handlers = h.catch_handlers;
          stack = h.stack;
          visits = h.visits;
        }

    pub along_visits : {v v' : ℕ} → v' ≡ v → Alongside new (with_visits v c) (with_visits v' c')
    unfolding with_visits
    along_visits e =
        record {
          next_id = h.next_id;
          emitted = h.emitted;
          scope_fallthroughs = h.scope_fallthroughs;
          scheduled = h.scheduled;
          catch_handlers = h.catch_handlers;
          stack = h.stack;
          visits = e;
        }

    pub along_scope : (b : ℕ) → Alongside new (mark_scope_fallthrough b c) (mark_scope_fallthrough (new b) c')
    unfolding mark_scope_fallthrough
    along_scope b =
        record {
          next_id = h.next_id;
          emitted = h.emitted;
          scope_fallthroughs = moved_add _ _ b h.scope_fallthroughs;
          scheduled = h.scheduled;
          catch_handlers = h.catch_handlers;
          stack = h.stack;
          visits = h.visits;
        }

    pub along_handler : (b : ℕ) → Alongside new (schedule_catch_handler b c) (schedule_catch_handler (new b) c')
    unfolding schedule_catch_handler
    along_handler b =
        record {
          next_id = h.next_id;
          emitted = h.emitted;
          scope_fallthroughs = h.scope_fallthroughs;
          scheduled = h.scheduled;
          catch_handlers = moved_add _ _ b h.catch_handlers;
          stack = h.stack;
          visits = h.visits;
        }

    along_popped : (s : List Entry) (f f' : Flags) → Moved new f f' → Alongside new (popped s f c) (popped (map (renamed_entry new) s) f' c')
    unfolding popped
    along_popped s f f' q =
        record {
          next_id = h.next_id;
          emitted = h.emitted;
          scope_fallthroughs = h.scope_fallthroughs;
          scheduled = q;
          catch_handlers = h.catch_handlers;
          stack = refl;
          visits = h.visits;
        }

    -- ---- schedule, unschedule

    block_of : (target : ControlFlowTarget) → target_block (renamed_target new target) ≡ new (target_block target)
    block_of (target_if block) = refl
    block_of (target_switch block) = refl
    block_of (target_case block) = refl
    block_of (target_loop block continue_block loop_block) = refl

    asked_of : (target : ControlFlowTarget) → block_asked (renamed_target new target) ≡ new (block_asked target)
    asked_of (target_if block) = refl
    asked_of (target_switch block) = refl
    asked_of (target_case block) = refl
    asked_of (target_loop block continue_block loop_block) = refl

    code_of_lem : (target : ControlFlowTarget) → blocked_code (renamed_target new target) ≡ blocked_code target
    code_of_lem (target_if block) = refl
    code_of_lem (target_switch block) = refl
    code_of_lem (target_case block) = refl
    code_of_lem (target_loop block continue_block loop_block) = refl

    module _ (s s' : Flags) (q : Moved new s s') where
      blocked_same : (target : ControlFlowTarget) → is_blocked (renamed_target new target) s' ≡ is_blocked target s
      blocked_same (target_if block) = q.flag block
      blocked_same (target_switch block) = q.flag block
      blocked_same (target_case block) = q.flag block
      blocked_same (target_loop block continue_block loop_block) = (moved_add s s' block q).flag continue_block

      owns_same : (target : ControlFlowTarget) → owns (renamed_target new target) s' ≡ owns target s
      owns_same (target_if block) = refl
      owns_same (target_switch block) = refl
      owns_same (target_case block) = refl
      owns_same (target_loop block continue_block loop_block) = ap not ((moved_add _ _ continue_block (moved_add s s' block q)).flag loop_block)

      moved_scheduled : (target : ControlFlowTarget) → Moved new (scheduled_by target s) (scheduled_by (renamed_target new target) s')
      moved_scheduled (target_if block) = moved_add s s' block q
      moved_scheduled (target_switch block) = moved_add s s' block q
      moved_scheduled (target_case block) = moved_add s s' block q
      moved_scheduled (target_loop block continue_block loop_block) = moved_add _ _ loop_block (moved_add _ _ continue_block (moved_add s s' block q))

      moved_by : (target : ControlFlowTarget) (owns_loop : Bool) → Moved new (unscheduled_by target owns_loop s) (unscheduled_by (renamed_target new target) owns_loop s')
      unfolding unscheduled_by
      moved_by (target_if block) owns_loop = moved_remove s s' block q
      moved_by (target_switch block) owns_loop = moved_remove s s' block q
      moved_by (target_case block) owns_loop = moved_remove s s' block q
      moved_by (target_loop block x l) false = moved_remove _ _ x (moved_remove s s' block q)
      moved_by (target_loop block x l) true = moved_remove _ _ l (moved_remove _ _ x (moved_remove s s' block q))

    along_pushed : (target : ControlFlowTarget) → Alongside new (pushed target c) (pushed (renamed_target new target) c')
    unfolding pushed
    along_pushed target = record {
      next_id = ap suc h.next_id;
      emitted = h.emitted;
      scope_fallthroughs = h.scope_fallthroughs;
      scheduled = moved_scheduled c.scheduled c'.scheduled h.scheduled target;
      catch_handlers = h.catch_handlers;
      stack = rw (h.next_id, h.stack, owns_same c.scheduled c'.scheduled h.scheduled target);
      visits = h.visits;
    }

    pub along_schedule : (target : ControlFlowTarget) → Alike new (Alongside new) (schedule target c) (schedule (renamed_target new target) c')
    unfolding schedule
    along_schedule target =
        rw (code_of_lem target)
        (alike_unless new (Alongside new) _ _ (blocked_code target) _ _ _ _ _ _ (blocked_same c.scheduled c'.scheduled h.scheduled target) (asked_of target) h.visits
        (along_pushed target))

    -- 91 names no block, and is no refusal of paper 01
    along_top : (s : List Entry) (i : ℕ) → Alike new (Alongside new) (unschedule_top s i c) (unschedule_top (map (renamed_entry new) s) i c')
    unfolding unschedule_top
    along_top [] i = (refl, (λ no_block. absurd no_block), h.visits)
    along_top (top ∷ below) i =
        alike_pick new (Alongside new) (eqb top.id i) _ _ (refused unschedule_out_of_order 0 c.visits) _ (refused unschedule_out_of_order 0 c'.visits) refl
        (along_popped below _ _ (moved_by c.scheduled c'.scheduled h.scheduled top.target top.owns_loop)) (refl, (λ no_block. absurd no_block), h.visits)

    pub along_unschedule : {i i' : ℕ} → i' ≡ i → Alike new (Alongside new) (unschedule i c) (unschedule i' c')
    unfolding unschedule
    along_unschedule {i} e = rw e (subst (λ (s : List Entry). Alike new (Alongside new) (unschedule_top c.stack i c) (unschedule_top s i c')) (sym h.stack) (along_top c.stack i))

    -- ---- get_break_target, get_continue_target

    is_loop_lem : (target : ControlFlowTarget) → is_loop (renamed_target new target) ≡ is_loop target
    is_loop_lem (target_if block) = refl
    is_loop_lem (target_switch block) = refl
    is_loop_lem (target_case block) = refl
    is_loop_lem (target_loop block continue_block loop_block) = refl

    loops_of_lem : (target : ControlFlowTarget) → loops_of (renamed_target new target) ≡ loops_of target
    loops_of_lem (target_if block) = refl
    loops_of_lem (target_switch block) = refl
    loops_of_lem (target_case block) = refl
    loops_of_lem (target_loop block continue_block loop_block) = refl

    continues : (target : ControlFlowTarget) (b : ℕ) → continues_at (renamed_target new target) (new b) ≡ continues_at target b
    continues (target_if block) b = refl
    continues (target_switch block) b = refl
    continues (target_case block) b = refl
    continues (target_loop block continue_block loop_block) b = same_test new m continue_block b

    pick_found : (y y' : Bool) (found found' : Resolution) (rest rest' : Option Resolution) → y' ≡ y → found' ≡ renamed_resolution new found → rest' ≡ Option.map (renamed_resolution new) rest
        → elim y' [ true ↦ some found' | false ↦ rest' ] ≡ Option.map (renamed_resolution new) (elim y [ true ↦ some found | false ↦ rest ])
    pick_found true true found found' rest rest' e p q = ap some p
    pick_found true false found found' rest rest' e p q = absurd (let z : ◌≡◌ {A = ℕ} 0 1 = cc in omega arith)
    pick_found false true found found' rest rest' e p q = absurd (let z : ◌≡◌ {A = ℕ} 0 1 = cc in omega arith)
    pick_found false false found found' rest rest' e p q = q

    break_from : (s : List Entry) (b : ℕ) (top : Bool) (above : ℕ)
        → break_target_from (map (renamed_entry new) s) (new b) top above ≡ Option.map (renamed_resolution new) (break_target_from s b top above)
    unfolding break_target_from
    break_from [] b top above = refl
    break_from (entry ∷ below) b top above =
        pick_found _ _ _ _ _ _ (ap (λ (k : ℕ). eqb k (new b)) (block_of entry.target) ∙ same_test new m (target_block entry.target) b) (rw (is_loop_lem entry.target))
        (rw (loops_of_lem entry.target) (break_from below b false (loops_of entry.target + above)))

    pub along_break : (b : ℕ) → get_break_target c' (new b) ≡ Option.map (renamed_resolution new) (get_break_target c b)
    unfolding get_break_target
    along_break b = rw h.stack (break_from c.stack b true 0)

    continue_from : (s : List Entry) (b : ℕ) (top : Bool) (above : ℕ)
        → continue_target_from (map (renamed_entry new) s) (new b) top above ≡ Option.map (renamed_resolution new) (continue_target_from s b top above)
    unfolding continue_target_from
    continue_from [] b top above = refl
    continue_from (entry ∷ below) b top above =
        pick_found _ _ _ _ _ _ (continues entry.target b) (rw (block_of entry.target))
        (rw (loops_of_lem entry.target) (continue_from below b false (loops_of entry.target + above)))

    pub along_continue : (b : ℕ) → get_continue_target c' (new b) ≡ Option.map (renamed_resolution new) (get_continue_target c b)
    unfolding get_continue_target
    along_continue b = rw h.stack (continue_from c.stack b true 0)
