-- The methods' Contexts against the definition's steps.
use mathlib.Core.Path.{◌≡◌, refl, sym, ap, subst, ◌∙◌}
use Prim.Native.Nat.{ℕ, zero, suc, ◌+◌, ◌-◌, ◌≤◌, ◌<◌}
use native.Mathlib.Nat.{eq-or-lt_of_le}
use native.Mathlib.Omega.{arith}
use native.Mathlib.Numerals.{add-one}
use mathlib.Core.List.{List, ◌∷◌}
use mathlib.Core.Bool.{Bool, true, false, ◌||◌}
use mathlib.Core.Logic.{◌⊎◌, inl, inr, ⊎_elim}
use lib.ListN.{get_or, set, length, replicate}
use lib.Seq.{get_or-set_same, get_or-set_other}
use borrow.Author.Tests.{eq-eqb}
use Rattle.std.specs.Prelude.{None}
use Rattle.std.specs.Bool.{then_some}
use Rattle.std.specs.Prelude as std
use Rattle.definition.specs.Result.{ok, ◌>>=◌, refuse_if}
use Rattle.definition.specs.Context as definition
use Rattle.definition.specs.Context.{Flags, has, add, remove, no_flags, start, is_scheduled}
use Rattle.definition.specs.Context.{is_blocked, block_asked, blocked_code, pushed, popped, schedule, scheduled_by, owns, unscheduled_by}
use Rattle.definition.specs.Context.{unschedule, unschedule_top}
use Rattle.control.specs.declared.ControlFlowTarget.{ControlFlowTarget}
use Rattle.control.specs.declared.ControlFlowTarget.TheVariants.{If, Switch, Case, Loop}
use Rattle.control.specs.declared.Entry.{Entry}
use Rattle.control.specs.declared.Context.{Context}
use Rattle.control.specs.declared.Blocked.{Blocked}
use Rattle.control.specs.declared.Blocked.TheVariants.{Block}
use Rattle.control.specs.Abstraction.{target_of, entry_of, no_entry, stack_of, context_of, entered_of, result_of, stored}
use Rattle.control.specs.Contract.{reason, Named, Bounded, Room, Last, with_entry, without_last, Created, Scheduled, Unscheduled}

-- ---- targets

-- a target that is no loop, where the code takes the three kinds together
pub record Unlooped (target : ControlFlowTarget) (block : ℕ) : Type 0 where
  pub asks : block_asked (target_of target) ≡ block
  pub reasons : reason target ≡ Block
  pub owns_none : (flags : Flags) → owns (target_of target) flags ≡ false
  pub blocked : (flags : Flags) → is_blocked (target_of target) flags ≡ has flags block
  pub into : (flags : Flags) → scheduled_by (target_of target) flags ≡ add flags block
  pub out : (owner : Bool) (flags : Flags) → unscheduled_by (target_of target) owner flags ≡ remove flags block

pub unlooped_of : (target : ControlFlowTarget) (block : ℕ) → (target ≡ If block) ⊎ ((target ≡ Switch block) ⊎ (target ≡ Case block)) → Unlooped target block
unfolding unscheduled_by
unlooped_of target block (inl e) = rw e (record { asks = refl; reasons = refl; owns_none = λ _. refl; blocked = λ _. refl; into = λ _. refl; out = λ _ _. refl })
unlooped_of target block (inr (inl e)) = rw e (record { asks = refl; reasons = refl; owns_none = λ _. refl; blocked = λ _. refl; into = λ _. refl; out = λ _ _. refl })
unlooped_of target block (inr (inr e)) = rw e (record { asks = refl; reasons = refl; owns_none = λ _. refl; blocked = λ _. refl; into = λ _. refl; out = λ _ _. refl })

-- ---- the stack

-- an entry above the length is not looked at
pub stack_above : (entries : List Entry) (n k : ℕ) (entry : Entry) → n ≤ k → stack_of (set entries k entry) n ≡ stack_of entries n
unfolding stack_of
stack_above entries zero k entry h = refl
stack_above entries (suc n) k entry h = rw (get_or-set_other entries k n entry no_entry (omega arith), stack_above entries n k entry (omega arith))

stack_stored : (entries : List Entry) (n : ℕ) (entry : Entry) → n < length entries → stack_of (set entries n entry) (suc n) ≡ entry_of entry ∷ stack_of entries n
unfolding stack_of
stack_stored entries n entry h = rw (get_or-set_same entries n entry no_entry h, stack_above entries n n entry (omega arith))

pub stack_last : (entries : List Entry) (n : ℕ) (last : Entry) → 0 < n → last ≡ get_or entries (n - 1) no_entry → stack_of entries n ≡ entry_of last ∷ stack_of entries (n - 1)
unfolding stack_of
stack_last entries (suc n) last h at =
    let e : suc n - 1 ≡ n = omega arith in
    rw e (ap {B = List definition.Entry} (λ (entry : Entry). entry_of entry ∷ stack_of entries n) (sym (rw e at at)))
stack_last entries zero last h at = elim h [ ]

pub stack_length : (entries : List Entry) (n : ℕ) → length (stack_of entries n) ≡ n
unfolding stack_of
stack_length entries zero = refl
stack_length entries (suc n) = ap suc (stack_length entries n)

-- ---- what the sets say of a Context

module _ (visits block : ℕ) (cx : Context) where
  pub is_scheduled_lem : is_scheduled (context_of visits cx) block ≡ has cx.scheduled block || has cx.catch_handlers block
  unfolding context_of is_scheduled
  is_scheduled_lem = refl

-- ---- the steps

pub created : Created (record {
  emitted = replicate 1024 false;
  catch_handlers = replicate 1024 false;
  scope_fallthroughs = replicate 1024 false;
  len = 0;
  scheduled = replicate 1024 false;
  pushed = no_entry;
  refused = None;
  next_schedule_id = 0;
  stack = replicate 1152 no_entry;
})
unfolding context_of start no_flags stack_of
created =
    record {
      context = refl;
      len = refl;
      id = refl;
      stack = refl;
      bounded = record { most = omega arith; named = λ k below. let absurd_below : ⊥ = omega arith in absurd absurd_below };
    }

-- once its entry is stored, a Context that `schedule` handed back is like any other
pub stores : (visits : ℕ) (cx : Context) → 0 < cx.len → cx.len ≤ length cx.stack → context_of visits (stored cx) ≡ entered_of visits cx
unfolding context_of entered_of stored
stores visits cx h k =
    let n : ℕ = cx.len - 1 in
    let l : cx.len ≡ suc n = omega arith in
    let s : stack_of (set cx.stack n cx.pushed) cx.len ≡ entry_of cx.pushed ∷ stack_of cx.stack n =
    ap (stack_of (set cx.stack n cx.pushed)) l ∙ stack_stored cx.stack n cx.pushed (omega arith) in
    rw s

-- a refusal, or the next Context
asked : (target : ControlFlowTarget) (blocked : Bool) (visits : ℕ) (next : Context) → next.refused ≡ then_some blocked (reason target) → next.pushed.target ≡ target
    → (refuse_if blocked (blocked_code (target_of target)) (block_asked (target_of target)) visits >>= λ _. ok (entered_of visits next)) ≡ result_of visits next
unfolding refuse_if ◌>>=◌
asked target false visits next r t = rw r refl
asked (If block) true visits next r t = rw (r, t) refl
asked (Switch block) true visits next r t = rw (r, t) refl
asked (Case block) true visits next r t = rw (r, t) refl
asked (Loop block continue_block loop_block) true visits next r t = rw (r, t) refl

pushes : (visits : ℕ) (target : ControlFlowTarget) (cx : Context) → entered_of visits (with_entry target cx) ≡ pushed (target_of target) (context_of visits cx)
unfolding context_of entered_of pushed
pushes visits target cx =
    let l : cx.len + 1 - 1 ≡ cx.len = omega arith in
    rw (l, add-one)

named_stored : (entries : List Entry) (n k : ℕ) (entry : Entry) → Named entry.target → n < length entries → k ≤ n
    → ((j : ℕ) → j < n → Named (get_or entries j no_entry).target) → Named (get_or (set entries n entry) k no_entry).target
named_stored entries n k entry named h below all =
    ⊎_elim
    (λ same. subst (λ (e : Entry). Named e.target) (sym (ap (λ (j : ℕ). get_or (set entries n entry) j no_entry) same ∙ get_or-set_same entries n entry no_entry h)) named)
    (λ less. subst (λ (e : Entry). Named e.target) (sym (get_or-set_other entries n k entry no_entry (omega arith))) (all k less))
    (eq-or-lt_of_le below)

bounded_stored : (entries : List Entry) (n : ℕ) (entry : Entry) → Named entry.target → n < length entries → n < 1152 → Bounded entries n → Bounded (set entries (n + 1 - 1) entry) (n + 1)
bounded_stored entries n entry named h small bounded =
    let e : n + 1 - 1 ≡ n = omega arith in
    record { most = omega arith; named = λ k below. rw e (named_stored entries n k entry named h (omega arith) bounded.named) }

by_definition : (visits : ℕ) (target : definition.ControlFlowTarget) (cx : Context)
    → schedule target (context_of visits cx) ≡
    (refuse_if (is_blocked target cx.scheduled) (blocked_code target) (block_asked target) visits >>= λ _. ok (pushed target (context_of visits cx)))
unfolding schedule context_of
by_definition visits target cx = refl

module _ (target : ControlFlowTarget) (cx : Context) (named : Named target) (room : Room cx) (inside : cx.len < length cx.stack) where
  pub scheduled : Scheduled target cx (with_entry target cx)
  scheduled = record {
    state = refl;
    context =
        λ visits. by_definition visits (target_of target) cx ∙ ap
        (λ (next : definition.Context). refuse_if (is_blocked (target_of target) cx.scheduled) (blocked_code (target_of target)) (block_asked (target_of target))
        visits >>= λ _. ok next) (sym (pushes visits target cx))
        ∙ asked target (is_blocked (target_of target) cx.scheduled) visits (with_entry target cx) refl refl;
    len = refl;
    id = refl;
    bounded = bounded_stored _ _ _ named inside room.len;
  }

-- the same where the arms of `schedule` meet
pub entered : {target t : ControlFlowTarget} {cx : Context} {flags : Flags} {refusal : std.Option Blocked} {owner : Bool} → t ≡ target → flags ≡ scheduled_by (target_of target) cx.scheduled
    → refusal ≡ then_some (is_blocked (target_of target) cx.scheduled) (reason target) → owner ≡ owns (target_of target) cx.scheduled
    → Scheduled target cx (with_entry target cx) → Scheduled target cx (record cx {
      len = cx.len + 1;
      scheduled = flags;
      pushed = record { id = cx.next_schedule_id; target = t; owns_loop = owner };
      refused = refusal;
      next_schedule_id = cx.next_schedule_id + 1;
    })
entered t f r o h = rw (t, f, r, o) h

-- ---- unschedule

unschedule_top_lem : (cx : definition.Context) (top : definition.Entry) (below : List definition.Entry) → cx.stack ≡ top ∷ below
    → unschedule top.id cx ≡ ok (popped below (unscheduled_by top.target top.owns_loop cx.scheduled) cx)
unfolding unschedule unschedule_top
unschedule_top_lem cx top below e = ap (λ (stack : List definition.Entry). unschedule_top stack top.id cx) e ∙ rw (unschedule_top, eq-eqb top.id top.id refl)

module _ (cx : Context) (last : Entry) (top : Last cx last) where
  on_top : (visits : ℕ) → (context_of visits cx).stack ≡ entry_of last ∷ stack_of cx.stack (cx.len - 1)
  unfolding context_of
  on_top visits = stack_last cx.stack cx.len last top.nonempty top.read

  off : (visits : ℕ) → popped (stack_of cx.stack (cx.len - 1)) (unscheduled_by (target_of last.target) last.owns_loop (context_of visits cx).scheduled)
      (context_of visits cx) ≡ context_of visits (without_last last cx)
  unfolding context_of popped
  off visits = refl

  pub unscheduled : Unscheduled last cx (without_last last cx)
  unscheduled = record {
    state = refl;
    context =
        λ visits. unschedule_top_lem (context_of visits cx) (entry_of last) (stack_of cx.stack (cx.len - 1)) (on_top visits) ∙ ap ok (off visits);
    len = refl;
    id = refl;
    bounded = λ bounded. record { most = omega (arith, bounded.most); named = λ k below. bounded.named k (omega arith) };
  }

-- the same where the arms of `unschedule` meet
pub left : {last : Entry} {cx : Context} {flags : Flags} → flags ≡ unscheduled_by (target_of last.target) last.owns_loop cx.scheduled
    → Unscheduled last cx (without_last last cx) → Unscheduled last cx (record cx { len = cx.len - 1; scheduled = flags })
left f h = rw f h
