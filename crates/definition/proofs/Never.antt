-- Over any table: the walk hands the stack back as it was and schedules nothing new, so that 90 and 91 never occur; and every refusal is the
-- paper's, so that 92 and 99 do not either. For the reader, proofs/Accepted, and walk/proofs/EntriesLaws.
use mathlib.Core.Path.{◌≡◌, refl, sym, ap, ◌∙◌, subst}
use Prim.Native.Nat.{ℕ, zero, suc, ◌≤◌}
use native.Mathlib.Omega.{arith}
use mathlib.Core.Logic.{◌⊎◌, inl, inr}
use mathlib.Core.List.{List, [], ◌∷◌}
use mathlib.Core.Option.{Option, none, some}
use mathlib.Core.Bool.{Bool, true, false, not, ◌&&◌, ◌||◌}
use lib.Dec.{T, eqb, leb, leb→le}
use borrow.Author.Tests.{eq-eqb}
use Rattle.table.specs.declared.columns.Span.{Span}
use Rattle.table.specs.Table.{Table, Block, Case, Terminal, absent, unreachable, throw, return, goto, if, branch, switch, do_while, while, for, for_of, for_in}
use Rattle.table.specs.Table.{logical, ternary, optional, sequence, maybe_throw, try, scope, Variant, Break, Continue, Try, block_at, terminal_at, is_absent}
use Rattle.table.specs.Table.{is_unreachable, label}
use Rattle.definition.specs.Context.{Flags, has, add, remove, ControlFlowTarget, target_if, target_switch, target_case, target_loop, target_block, Entry}
use Rattle.definition.specs.Context.{Context, start, is_scheduled, emit, with_visits, mark_scope_fallthrough, schedule_catch_handler, is_blocked, blocked_code}
use Rattle.definition.specs.Context.{block_asked, pushed, schedule, unscheduled_by, popped, unschedule_top, unschedule, Resolution}
use Rattle.definition.specs.Build.{rejected, report, reported}
use Rattle.definition.specs.Around.{Rule, Around, outermost}
use Rattle.definition.specs.Result.{refused, Result, ok, ◌>>=◌, refuse_if, already_scheduled, unschedule_out_of_order, maybe_throw_in_value_terminal}
use Rattle.definition.specs.Statement.{break_to_scope, visit_break, visit_continue, break_resolved, continue_resolved, TerminalResult, BlockResult}
use Rattle.definition.specs.Statement.{TraverseBlock, TraverseInside, enter_block, unless_scheduled, unless_unreachable, schedule_if, unschedule_if, mark_scope_fallthrough_if}
use Rattle.definition.specs.Statement.{traverse_unscheduled, traverse_alternate, visit_goto, traverse_enclosed, traverse_loop, traverse_cases, unschedule_all}
use Rattle.definition.specs.Statement.{schedule_switch, schedule_ids, cases_last_first, visit_update, traverse_consequent, visit_value_statement, visit_terminal}
use Rattle.definition.specs.Statement.{then_next, visit_block, traverse_block, build_tree}
use Rattle.definition.specs.Tree.{Kind, implicit, labeled, unlabeled, Statement, Statements}
use Rattle.definition.specs.Value.{visit_value_block, begin_visit, VisitValueBlock}
use Rattle.definition.proofs.Steps.{true_false, Any, of_paper, Fine, fine_bind, fine_unless, fine_pick, fine_map, none_some}
use Rattle.definition.proofs.Flags.{has_add, has_remove, has_removed}
use Rattle.definition.proofs.ValueWalk.{BlockTook, TerminalTook, VisitTook, is_maybe_throw, terminal_took, value_took}

-- ---- the state: the stack as before, and nothing new scheduled

pub record After (c c' : Context) : Type 0 where
  pub same : c'.stack ≡ c.stack
  pub sub : (x : ℕ) → has c'.scheduled x ≡ true → has c.scheduled x ≡ true

after_refl : (c : Context) → After c c
after_refl c = record { same = refl; sub = λ x h. h }

after_trans : {a b c : Context} → After a b → After b c → After a c
after_trans p q = record { same = q.same ∙ p.same; sub = λ x h. p.sub x (q.sub x h) }

from_visited : {c d : Context} (v : ℕ) → After (with_visits v c) d → After c d
unfolding with_visits
from_visited v p = record { same = p.same; sub = p.sub }

to_visited : {c d : Context} (v : ℕ) → After c d → After c (with_visits v d)
unfolding with_visits
to_visited v p = record { same = p.same; sub = p.sub }

from_caught : {c d : Context} (h : ℕ) → After (schedule_catch_handler h c) d → After c d
unfolding schedule_catch_handler
from_caught h p = record { same = p.same; sub = p.sub }

from_scoped : {c d : Context} (g : Option ℕ) → After (mark_scope_fallthrough_if g c) d → After c d
unfolding mark_scope_fallthrough_if mark_scope_fallthrough
from_scoped none p = p
from_scoped (some f) p = record { same = p.same; sub = p.sub }

to_entered : (c : Context) (b v : ℕ) → After c (emit b (with_visits v c))
unfolding emit with_visits
to_entered c b v = record { same = refl; sub = λ x h. h }

-- ---- targets other than loops

unfoldable pub Free : Option ℕ → Context → Type 0
Free g c = (f : ℕ) → g ≡ some f → has c.scheduled f ≡ false

pub or_false : (x y : Bool) → x || y ≡ false → x ≡ false
or_false true y e = e
or_false false y e = refl

pub untaken_free : (c : Context) (f : ℕ) → Free (unless_scheduled c f) c
unfolding unless_scheduled Free is_scheduled
untaken_free c f g e = at (is_scheduled c f) refl e
  where
    at : (y : Bool) → is_scheduled c f ≡ y → elim y [ true ↦ none | false ↦ some f ] ≡ some g → has c.scheduled g ≡ false
    at true h q = absurd (none_some q)
    at false h q = ap (has c.scheduled) (cc q) ∙ or_false (has c.scheduled f) (has c.catch_handlers f) h

pub reached_fine : (t : Table) (c : Context) (f : ℕ) → Fine (λ g. Free g c) (unless_unreachable t c f)
unfolding unless_unreachable
reached_fine t c f = fine_unless (λ g. Free g c) _ 10 f c.visits _ tt (λ h. at (is_unreachable (terminal_at t f)))
  where
    at : (y : Bool) → Free (elim y [ true ↦ none | false ↦ unless_scheduled c f ]) c
    at true = unfold Free in (λ g e. absurd (none_some e))
    at false = untaken_free c f

pub schedule_free : (g : ControlFlowTarget) (c : Context) → is_blocked g c.scheduled ≡ false → schedule g c ≡ ok (pushed g c)
unfolding schedule refuse_if ◌>>=◌
schedule_free g c e = ap (λ (y : Bool). refuse_if y (blocked_code g) (block_asked g) c.visits >>= λ _. ok (pushed g c)) e

unschedule_top_lem : (i : ℕ) (e : Entry) (S : List Entry) (d : Context) → d.stack ≡ e ∷ S → e.id ≡ i → unschedule i d ≡ ok (popped S (unscheduled_by e.target e.owns_loop d.scheduled) d)
unfolding unschedule unschedule_top
unschedule_top_lem i e S d h q =
    ap (λ (z : List Entry). unschedule_top z i d) h
    ∙ ap (λ (y : Bool). elim y [ true ↦ ok (popped S (unscheduled_by e.target e.owns_loop d.scheduled) d) | false ↦ refused 91 0 d.visits ]) (eq-eqb e.id i q)

not_removed : (s : Flags) (y x : ℕ) → has (remove s y) x ≡ true → x ≡ y → ⊥
not_removed s y x h e = true_false (sym h ∙ ap (has (remove s y)) e ∙ has_removed s y)

-- c₁ is c with the target g on top, and d came of c₁
record On (g : ControlFlowTarget) (i : ℕ) (c d : Context) : Type 0 where
  stack : d.stack ≡ record { id = i; target = g; owns_loop = false } ∷ c.stack
  sub : (x : ℕ) → has d.scheduled x ≡ true → (x ≡ target_block g) ⊎ (has c.scheduled x ≡ true)

if_on : (f : ℕ) (c : Context) → On (target_if f) c.next_id c (pushed (target_if f) c)
unfolding pushed
if_on f c = record { stack = refl; sub = has_add c.scheduled f }

switch_on : (f : ℕ) (c : Context) → On (target_switch f) c.next_id c (pushed (target_switch f) c)
unfolding pushed
switch_on f c = record { stack = refl; sub = has_add c.scheduled f }

case_on : (f : ℕ) (c : Context) → On (target_case f) c.next_id c (pushed (target_case f) c)
unfolding pushed
case_on f c = record { stack = refl; sub = has_add c.scheduled f }

on_after : {g : ControlFlowTarget} {i : ℕ} {c d e : Context} → On g i c d → After d e → On g i c e
on_after p q = record { stack = q.same ∙ p.stack; sub = λ x h. p.sub x (q.sub x h) }

abbrev OneBlock : ControlFlowTarget → Type 0
OneBlock g = (s : Flags) → unscheduled_by g false s ≡ remove s (target_block g)

popped_after : (g : ControlFlowTarget) (i : ℕ) (c d : Context) → OneBlock g → On g i c d → After c (popped c.stack (unscheduled_by g false d.scheduled) d)
unfolding popped
popped_after g i c d u p = record {
  same = refl;
  sub = λ x h. away x (ap (λ (s : Flags). has s x) (sym (u d.scheduled)) ∙ h);
}
  where
    away : (x : ℕ) → has (remove d.scheduled (target_block g)) x ≡ true → has c.scheduled x ≡ true
    away x h = elim (p.sub x (has_remove d.scheduled (target_block g) x h)) [ inl e ↦ absurd (not_removed d.scheduled (target_block g) x h e) | inr k ↦ k ]

unschedule_fine : (g : ControlFlowTarget) (i : ℕ) (c d : Context) → OneBlock g → On g i c d → Fine (λ e. After c e) (unschedule i d)
unschedule_fine g i c d u p =
    subst (λ (r : Result Context). Fine (λ e. After c e) r) (sym (unschedule_top_lem i (record { id = i; target = g; owns_loop = false }) c.stack d p.stack refl)) (popped_after g i c d u p)

if_one_block : (f : ℕ) → OneBlock (target_if f)
unfolding unscheduled_by
if_one_block f s = refl

switch_one_block : (f : ℕ) → OneBlock (target_switch f)
unfolding unscheduled_by
switch_one_block f s = refl

case_one_block : (f : ℕ) → OneBlock (target_case f)
unfolding unscheduled_by
case_one_block f s = refl

-- an optional target pushed
abbrev OnIf : Option ℕ → Context → Context → Type 0
OnIf none c d = After c d
OnIf (some f) c d = On (target_if f) c.next_id c d

on_if_after : (g : Option ℕ) (c : Context) {d e : Context} → OnIf g c d → After d e → OnIf g c e
on_if_after none c p q = after_trans p q
on_if_after (some f) c p q = on_after p q

schedule_if_fine : (g : Option ℕ) (c : Context) → Free g c → Fine (λ d. OnIf g c d) (schedule_if g c)
unfolding schedule_if Free
schedule_if_fine none c h = after_refl c
schedule_if_fine (some f) c h = subst (λ (r : Result Context). Fine (λ d. On (target_if f) c.next_id c d) r) (sym (schedule_free (target_if f) c (h f refl))) (if_on f c)

unschedule_if_fine : (g : Option ℕ) (c d : Context) → OnIf g c d → Fine (λ e. After c e) (unschedule_if g c.next_id d)
unfolding unschedule_if
unschedule_if_fine none c d p = p
unschedule_if_fine (some f) c d p = unschedule_fine (target_if f) c.next_id c d (if_one_block f) p

-- ---- loops

record InLoop (f k l : ℕ) (c d : Context) : Type 0 where
  owns : Bool
  stack : d.stack ≡ record { id = c.next_id; target = target_loop f k l; owns_loop = owns } ∷ c.stack
  sub : (x : ℕ) → has d.scheduled x ≡ true → has (add (add (add c.scheduled f) k) l) x ≡ true
  lent : owns ≡ false → has (add (add c.scheduled f) k) l ≡ true

loop_after : {f k l : ℕ} {c d e : Context} → InLoop f k l c d → After d e → InLoop f k l c e
loop_after p q = record { owns = p.owns; stack = q.same ∙ p.stack; sub = λ x h. p.sub x (q.sub x h); lent = p.lent }

schedule_loop_fine : (f k l : ℕ) (c : Context) → Fine (λ d. InLoop f k l c d) (schedule (target_loop f k l) c)
unfolding schedule pushed
schedule_loop_fine f k l c = fine_unless (λ d. InLoop f k l c d) _ 15 k c.visits _ tt (λ h. record { owns = _; stack = refl; sub = λ x q. q; lent = lends (has (add (add c.scheduled f) k) l) })
  where
    lends : (y : Bool) → not y ≡ false → y ≡ true
    lends true e = refl
    lends false e = absurd (true_false e)

loop_unscheduled : (s d : Flags) (f k l : ℕ) (o : Bool) → ((x : ℕ) → has d x ≡ true → has (add (add (add s f) k) l) x ≡ true) → (o ≡ false → has (add (add s f) k) l ≡ true)
    → (x : ℕ) → has (unscheduled_by (target_loop f k l) o d) x ≡ true → has s x ≡ true
unfolding unscheduled_by
loop_unscheduled s d f k l true sub lent x h =
    let h₁ : has (remove (remove d f) k) x ≡ true = has_remove (remove (remove d f) k) l x h in
    let h₂ : has (remove d f) x ≡ true = has_remove (remove d f) k x h₁ in
    elim (has_add (add (add s f) k) l x (sub x (has_remove d f x h₂))) [
      | inl e ↦ absurd (not_removed (remove (remove d f) k) l x h e)
      | inr q ↦ elim (has_add (add s f) k x q) [
        | inl e ↦ absurd (not_removed (remove d f) k x h₁ e)
        | inr q ↦ elim (has_add s f x q) [ inl e ↦ absurd (not_removed d f x h₂ e) | inr q ↦ q ]
      ]
    ]
loop_unscheduled s d f k l false sub lent x h =
    let h₂ : has (remove d f) x ≡ true = has_remove (remove d f) k x h in
    let inner : has (add (add s f) k) x ≡ true → has s x ≡ true = λ q. elim (has_add (add s f) k x q) [
      | inl e ↦ absurd (not_removed (remove d f) k x h e)
      | inr q ↦ elim (has_add s f x q) [ inl e ↦ absurd (not_removed d f x h₂ e) | inr q ↦ q ]
    ] in
    elim (has_add (add (add s f) k) l x (sub x (has_remove d f x h₂)))
    [ inl e ↦ inner (ap (has (add (add s f) k)) e ∙ lent refl) | inr q ↦ inner q ]

unschedule_loop_fine : (f k l : ℕ) (c d : Context) → InLoop f k l c d → Fine (λ e. After c e) (unschedule c.next_id d)
unfolding popped
unschedule_loop_fine f k l c d p =
    subst (λ (r : Result Context). Fine (λ e. After c e) r)
    (sym (unschedule_top_lem c.next_id (record { id = c.next_id; target = target_loop f k l; owns_loop = p.owns }) c.stack d p.stack refl))
    (record { same = refl; sub = loop_unscheduled c.scheduled d.scheduled f k l p.owns p.sub p.lent })

-- ---- cases

abbrev Tower : Context → List ℕ → Context → Type 0
Tower c [] d = After c d
Tower c (i ∷ ids) d = (m : Context) × (g : ControlFlowTarget) × OneBlock g × On g i m d × Tower c ids m

tower_after : (c : Context) (ids : List ℕ) (d e : Context) → Tower c ids d → After d e → Tower c ids e
tower_after c [] d e p q = after_trans p q
tower_after c (i ∷ ids) d e (m, g, u, o, r) q = (m, g, u, on_after o q, r)

unschedule_all_fine : (c : Context) (ids : List ℕ) (d : Context) → Tower c ids d → Fine (λ e. After c e) (unschedule_all ids d)
unfolding unschedule_all
unschedule_all_fine c [] d p = p
unschedule_all_fine c (i ∷ ids) d (m, g, u, o, r) =
    fine_bind (λ e. After m e) (λ e. After c e) _ _ (unschedule_fine g i m d u o) (λ e q. unschedule_all_fine c ids e (tower_after c ids m e r q))

schedule_switch_fine : (g : Option ℕ) (c : Context) → Free g c → Fine (λ d. Tower c (schedule_ids g c.next_id) d) (schedule_switch g c)
unfolding schedule_switch Free
schedule_switch_fine none c h = after_refl c
schedule_switch_fine (some f) c h =
    subst (λ (r : Result Context). Fine (λ d. Tower c (c.next_id ∷ []) d) r) (sym (schedule_free (target_switch f) c (h f refl)))
    (c, target_switch f, switch_one_block f, switch_on f c, after_refl c)

schedule_case_fine : (k : ℕ) (c : Context) → has c.scheduled k ≡ false → Fine (λ d. On (target_case k) c.next_id c d) (schedule (target_case k) c)
schedule_case_fine k c h = subst (λ (r : Result Context). Fine (λ d. On (target_case k) c.next_id c d) r) (sym (schedule_free (target_case k) c h)) (case_on k c)

pub false_of : (y : Bool) → (y ≡ true → ⊥) → y ≡ false
false_of true h = absurd (h refl)
false_of false h = refl

-- ---- the ends

unfoldable pub WalkFine : TraverseBlock → Type 0
WalkFine inner = (b : ℕ) (c : Context) → Fine (λ r. After c r.context) (inner b c)

break_to_scope_fine : (k : Kind) (at v : ℕ) → Fine Any (break_to_scope k at v)
unfolding break_to_scope
break_to_scope_fine implicit at v = tt
break_to_scope_fine labeled at v = tt
break_to_scope_fine unlabeled at v = tt

break_resolved_fine : (a : Around) (b g i : ℕ) (c : Context) (r : Option Resolution) → Fine Any (break_resolved a b g i c r)
unfolding break_resolved
break_resolved_fine a b g i c none = tt
break_resolved_fine a b g i c (some r) =
    fine_pick Any (has c.scope_fallthroughs r.target) _ _ (λ _. break_to_scope_fine r.kind b c.visits)
    (λ _. fine_unless Any _ 29 b c.visits _ tt (λ _. tt))

continue_resolved_fine : (a : Around) (b g i : ℕ) (c : Context) (k : Option Resolution) → Fine Any (continue_resolved a b g i c k)
unfolding continue_resolved
continue_resolved_fine a b g i c none = tt
continue_resolved_fine a b g i c (some k) = fine_unless Any _ 29 b c.visits _ tt (λ _. tt)

abbrev pub StepAfter : Context → TerminalResult → Type 0
StepAfter c s = After c s.context

goto_fine : (a : Around) (v : Variant) (b g i : ℕ) (c : Context) → Fine (StepAfter c) (visit_goto a v b g i c)
unfolding visit_goto visit_break visit_continue
goto_fine a Break b g i c = fine_bind Any (StepAfter c) _ _ (break_resolved_fine a b g i c _) (λ s _. after_refl c)
goto_fine a Continue b g i c = fine_bind Any (StepAfter c) _ _ (continue_resolved_fine a b g i c _) (λ s _. after_refl c)
goto_fine a Try b g i c = after_refl c

module _ (inner : TraverseBlock) (wf : WalkFine inner) where
  unscheduled_fine : (b code at : ℕ) (c : Context) → T (of_paper code) → Fine (λ r. After c r.context) (traverse_unscheduled inner b code at c)
  unfolding traverse_unscheduled WalkFine
  unscheduled_fine b code at c h = fine_unless (λ r. After c r.context) _ code at c.visits _ h (λ _. wf b c)

  alternate_fine : (a f : ℕ) (c : Context) → Fine (λ r. After c r.context) (traverse_alternate inner a f c)
  unfolding traverse_alternate
  alternate_fine a f c =
      fine_pick (λ r. After c r.context) (eqb a f) _ _ (λ _. after_refl c)
      (λ _. fine_bind (λ r. After c r.context) (λ r. After c r.context) _ _ (unscheduled_fine a 13 a c tt) (λ r q. q))

  enclosed_fine : (b code at : ℕ) (g : Option ℕ) (c c₁ d : Context) (make : Statements → Statement) → T (of_paper code) → OnIf g c d → ((e : Context) → After c₁ e → After d e)
      → Fine (StepAfter c) (traverse_enclosed inner b code at g c c₁ make)
  unfolding traverse_enclosed
  enclosed_fine b code at g c c₁ d make h p br =
      fine_bind (λ r. After c₁ r.context) (StepAfter c) _ _ (unscheduled_fine b code at c₁ h)
      (λ r q. fine_bind (λ e. After c e) (StepAfter c) _ _ (unschedule_if_fine g c r.context (on_if_after g c p (br r.context q))) (λ e q₁. q₁))

  loop_fine : (b l f k : ℕ) (bad : Bool) (v : ℕ) (c d : Context) (g : Option ℕ) (make : Statements → Statement) → InLoop f k l c d
      → Fine (StepAfter c) (traverse_loop inner b l bad v c.next_id d g make)
  unfolding traverse_loop WalkFine
  loop_fine b l f k bad v c d g make p =
      fine_unless (StepAfter c) bad 16 b v _ tt (λ _. fine_bind (λ r. After (with_visits v d) r.context) (StepAfter c) _ _ (wf l (with_visits v d))
      (λ r q. fine_bind (λ e. After c e) (StepAfter c) _ _ (unschedule_loop_fine f k l c r.context (loop_after p (from_visited v q))) (λ e q₁. q₁)))

  cases_fine : (b f : ℕ) (c₀ : Context) (cs : List Case) (ids : List ℕ) (c : Context) → Tower c₀ ids c → Fine (λ r. Tower c₀ r.ids r.context) (traverse_cases inner b f cs ids c)
  unfolding traverse_cases WalkFine is_scheduled
  cases_fine b f c₀ [] ids c p = p
  cases_fine b f c₀ (k ∷ ks) ids c p =
      fine_pick (λ r. Tower c₀ r.ids r.context) (is_scheduled c k.block) _ _
      (λ _. fine_unless (λ r. Tower c₀ r.ids r.context) _ 14 b c.visits _ tt (λ _. cases_fine b f c₀ ks ids c p))
      (λ h. fine_bind (λ r. After c r.context) (λ r. Tower c₀ r.ids r.context) _ _ (wf k.block c) (λ r q.
      fine_bind (λ d. On (target_case k.block) r.context.next_id r.context d) (λ r. Tower c₀ r.ids r.context) _ _
      (schedule_case_fine k.block r.context (false_of (has r.context.scheduled k.block)
      (λ z. true_false (sym (q.sub k.block z) ∙ or_false (has c.scheduled k.block) (has c.catch_handlers k.block) h))))
      (λ d o. fine_bind (λ r. Tower c₀ r.ids r.context) (λ r. Tower c₀ r.ids r.context) _ _
      (cases_fine b f c₀ ks (r.context.next_id ∷ ids) d (r.context, target_case k.block, case_one_block k.block, o, tower_after c₀ ids c r.context p q))
      (λ z u. u))))

  consequent_fine : (a : Around) (b y i : ℕ) (c : Context) → Fine (λ r. After c r.context) (traverse_consequent a inner b y i c)
  unfolding traverse_consequent WalkFine visit_break
  consequent_fine a b y i c =
      fine_pick (λ r. After c r.context) (is_scheduled c y) _ _
      (λ _. fine_bind Any (λ r. After c r.context) _ _ (break_resolved_fine a b y i c _) (λ s _. after_refl c)) (λ _. wf y c)

module _ (t : Table) (values : VisitValueBlock) (took : VisitTook t values) (inner : TraverseInside) (wf : (a : Around) → WalkFine (inner a)) where
  value_fine : (x : ℕ) (ft : Option ℕ) (span : Span) (v : ℕ) → Fine Any (values x ft span v)
  unfolding VisitTook
  value_fine x ft span v = fine_map (BlockTook t v) Any (values x ft span v) (λ _ _. tt) (took x ft span v)

  update_fine : (u : Option ℕ) (span : Span) (v : ℕ) → Fine Any (visit_update values u span v)
  unfolding visit_update
  update_fine none span v = tt
  update_fine (some u) span v = fine_bind Any Any _ _ (value_fine u none span v) (λ r _. tt)

  value_statement_fine : (m : Terminal) (b : ℕ) (k : Block) (f : ℕ) (c : Context) → T (not (is_maybe_throw m)) → Fine (StepAfter c) (visit_value_statement t values m b k f c)
  unfolding visit_value_statement
  value_statement_fine m b k f c h =
      fine_bind (λ d. OnIf (unless_scheduled c f) c d) (StepAfter c) _ _ (schedule_if_fine (unless_scheduled c f) c (untaken_free c f)) (λ d p.
      fine_bind (TerminalTook t d.visits) (StepAfter c) _ _ (terminal_took t values took m k.id k.span d.visits b h) (λ r _.
      fine_bind (λ e. After c e) (StepAfter c) _ _
      (unschedule_if_fine (unless_scheduled c f) c (with_visits r.visits d) (on_if_after (unless_scheduled c f) c p (to_visited r.visits (after_refl d))))
      (λ e q. q)))

  pub terminal_fine : (a : Around) (m : Terminal) (b : ℕ) (k : Block) (c : Context) → is_absent m ≡ false → Fine (StepAfter c) (visit_terminal t values inner a m b k c)
  unfolding visit_terminal WalkFine
  terminal_fine a absent b k c h = absurd (true_false h)
  terminal_fine a unreachable b k c h = after_refl c
  terminal_fine a (throw x) b k c h = after_refl c
  terminal_fine a (return x) b k c h = after_refl c
  terminal_fine a (goto g v) b k c h = goto_fine a v b g k.id c
  terminal_fine o (if x y a f) b k c h =
      fine_bind (λ g. Free g c) (StepAfter c) _ _ (reached_fine t c f) (λ g fr.
      fine_bind (λ d. OnIf g c d) (StepAfter c) _ _ (schedule_if_fine g c fr) (λ d p.
      fine_bind (λ r. After d r.context) (StepAfter c) _ _ (unscheduled_fine _ (wf _) y 12 y d tt) (λ r q.
      fine_bind (λ s. After r.context s.context) (StepAfter c) _ _ (alternate_fine _ (wf _) a f r.context) (λ s q₁.
      fine_bind (λ e. After c e) (StepAfter c) _ _ (unschedule_if_fine g c s.context (on_if_after g c (on_if_after g c p q) q₁)) (λ e q₂. q₂)))))
  terminal_fine o (branch x y a) b k c h =
      fine_bind (λ r. After c r.context) (StepAfter c) _ _ (consequent_fine _ (wf _) o b y k.id c) (λ r q.
      fine_bind (λ s. After r.context s.context) (StepAfter c) _ _ (unscheduled_fine _ (wf _) a 19 b r.context tt) (λ s q₁. after_trans q q₁))
  terminal_fine a (switch x i n f) b k c h =
      fine_bind (λ g. Free g c) (StepAfter c) _ _ (reached_fine t c f) (λ g fr.
      fine_bind (λ d. Tower c (schedule_ids g c.next_id) d) (StepAfter c) _ _ (schedule_switch_fine g c fr) (λ d p.
      fine_bind (λ r. Tower c r.ids r.context) (StepAfter c) _ _ (cases_fine _ (wf _) b f c (cases_last_first t i n) (schedule_ids g c.next_id) d p) (λ r q.
      fine_bind (λ e. After c e) (StepAfter c) _ _ (unschedule_all_fine c r.ids r.context q) (λ e q₁. q₁))))
  terminal_fine a (do_while l x f) b k c h =
      fine_bind (λ d. InLoop f x l c d) (StepAfter c) _ _ (schedule_loop_fine f x l c) (λ d p.
      fine_unless (StepAfter c) _ 16 b d.visits _ tt (λ _. fine_bind (λ r. After d r.context) (StepAfter c) _ _ (wf _ l d) (λ r q.
      fine_bind Any (StepAfter c) _ _ (value_fine x none k.span r.context.visits) (λ v _.
      fine_bind (λ e. After c e) (StepAfter c) _ _ (unschedule_loop_fine f x l c (with_visits v.visits r.context) (loop_after p (to_visited v.visits q))) (λ e q₁. q₁)))))
  terminal_fine a (while x l f) b k c h =
      fine_bind (λ g. Free g c) (StepAfter c) _ _ (reached_fine t c f) (λ g fr.
      fine_bind (λ d. InLoop f x l c d) (StepAfter c) _ _ (schedule_loop_fine f x l c) (λ d p.
      fine_bind Any (StepAfter c) _ _ (value_fine x none k.span d.visits) (λ v _. loop_fine _ (wf _) b l f x _ v.visits c d g _ p)))
  terminal_fine a (for i x u l f) b k c h =
      fine_bind (λ d. InLoop f _ l c d) (StepAfter c) _ _ (schedule_loop_fine f _ l c) (λ d p.
      fine_bind Any (StepAfter c) _ _ (value_fine i none k.span d.visits) (λ n _.
      fine_bind Any (StepAfter c) _ _ (value_fine x none k.span n.visits) (λ v _.
      fine_bind Any (StepAfter c) _ _ (update_fine u k.span v.visits) (λ w _. loop_fine _ (wf _) b l f _ _ w.visits c d _ _ p))))
  terminal_fine a (for_of i x l f) b k c h =
      fine_bind (λ d. InLoop f i l c d) (StepAfter c) _ _ (schedule_loop_fine f i l c) (λ d p.
      fine_bind Any (StepAfter c) _ _ (value_fine i none k.span d.visits) (λ n _.
      fine_bind Any (StepAfter c) _ _ (value_fine x none k.span n.visits) (λ v _. loop_fine _ (wf _) b l f i _ v.visits c d _ _ p)))
  terminal_fine a (for_in i l f) b k c h =
      fine_bind (λ d. InLoop f i l c d) (StepAfter c) _ _ (schedule_loop_fine f i l c) (λ d p.
      fine_bind Any (StepAfter c) _ _ (value_fine i none k.span d.visits) (λ n _. loop_fine _ (wf _) b l f i _ n.visits c d _ _ p))
  terminal_fine a (logical o x f) b k c h = value_statement_fine (logical o x f) b k f c tt
  terminal_fine a (ternary x f) b k c h = value_statement_fine (ternary x f) b k f c tt
  terminal_fine a (optional g x f) b k c h = value_statement_fine (optional g x f) b k f c tt
  terminal_fine a (label x f) b k c h =
      fine_bind (λ g. Free g c) (StepAfter c) _ _ (reached_fine t c f) (λ g fr.
      fine_bind (λ d. OnIf g c d) (StepAfter c) _ _ (schedule_if_fine g c fr) (λ d p. enclosed_fine _ (wf _) x 17 b g c d d _ tt p (λ e q. q)))
  terminal_fine a (sequence x f) b k c h = value_statement_fine (sequence x f) b k f c tt
  terminal_fine a (maybe_throw n) b k c h = after_refl c
  terminal_fine a (try x y f n) b k c h =
      fine_bind (λ g. Free g c) (StepAfter c) _ _ (reached_fine t c f) (λ g fr.
      fine_bind (λ d. OnIf g c d) (StepAfter c) _ _ (schedule_if_fine g c fr) (λ d p.
      fine_bind (λ r. After (schedule_catch_handler y d) r.context) (StepAfter c) _ _ (wf _ x (schedule_catch_handler y d)) (λ r q.
      fine_bind (λ s. After r.context s.context) (StepAfter c) _ _ (wf _ y r.context) (λ s q₁.
      fine_bind (λ e. After c e) (StepAfter c) _ _ (unschedule_if_fine g c s.context (on_if_after g c (on_if_after g c p (from_caught y q)) q₁)) (λ e q₂. q₂)))))
  terminal_fine a (scope pr x f s) b k c h =
      fine_bind (λ d. OnIf (unless_scheduled c f) c d) (StepAfter c) _ _ (schedule_if_fine (unless_scheduled c f) c (untaken_free c f))
      (λ d p. enclosed_fine _ (wf _) x 18 b (unless_scheduled c f) c (mark_scope_fallthrough_if (unless_scheduled c f) d) d _ tt p (λ e q. from_scoped (unless_scheduled c f) q))

  next_fine : (b : ℕ) (again : TraverseBlock) (c : Context) (s : Option Statement) (n : Option ℕ) (d : Context) → WalkFine again → After c d
      → Fine (λ r. After c r.context) (then_next t b again s n d)
  unfolding then_next WalkFine
  next_fine b again c s none d w p = p
  next_fine b again c s (some n) d w p = fine_bind (λ r. After d r.context) (λ r. After c r.context) _ _ (w n d) (λ r q. after_trans p q)

  begin_present : (b v : ℕ) → Fine (λ _. is_absent (terminal_at t b) ≡ false) (begin_visit t b v)
  unfolding begin_visit
  begin_present b v = fine_unless (λ _. is_absent (terminal_at t b) ≡ false) _ 31 b v _ tt (λ _. fine_unless (λ _. is_absent (terminal_at t b) ≡ false) _ 10 b (suc v) _ tt (λ h. h))

  pub enter_fine : (b : ℕ) (c : Context) → Fine (λ d. (is_absent (terminal_at t b) ≡ false) × After c d) (enter_block t b c)
  unfolding enter_block
  enter_fine b c =
      fine_bind (λ _. is_absent (terminal_at t b) ≡ false) (λ d. (is_absent (terminal_at t b) ≡ false) × After c d) _ _ (begin_present b c.visits)
      (λ v h. fine_unless (λ d. (is_absent (terminal_at t b) ≡ false) × After c d) _ 11 b v _ tt (λ _. (h, to_entered c b v)))

  visit_block_fine : (a : Around) (n : ℕ) → WalkFine (visit_block t values inner a n)
  unfolding visit_block WalkFine
  visit_block_fine a zero b c = tt
  visit_block_fine a (suc n) b c =
      fine_bind (λ d. (is_absent (terminal_at t b) ≡ false) × After c d) (λ r. After c r.context) _ _ (enter_fine b c) (λ d p.
      fine_bind (StepAfter d) (λ r. After c r.context) _ _ (terminal_fine a (terminal_at t b) b (block_at t b) d p.0) (λ s q.
      next_fine b (visit_block t values inner a n) c s.statement s.next s.context (visit_block_fine a n) (after_trans p.1 q)))

pub walk_fine : (t : Table) (d : ℕ) (a : Around) → WalkFine (traverse_block t d a)
unfolding traverse_block WalkFine
walk_fine t zero a b c = tt
walk_fine t (suc d) a b c = visit_block_fine t (visit_value_block t d) (value_took t d) (traverse_block t d) (walk_fine t d) a 8193 b c

-- every refusal of a table has one of the paper's codes, so none is a message that never occurs
pub never : (rule : Rule) (t : Table) (c p v : ℕ) → build_tree rule t ≡ refused c p v → T (of_paper c)
unfolding build_tree WalkFine
never rule t c p v e = subst (λ (r : Result BlockResult). Fine (λ r. After start r.context) r) e (walk_fine t 128 (outermost rule) t.entry start)

rejected_is : (y : Result BlockResult) (code at visits : ℕ) → reported y ≡ rejected code at visits → y ≡ refused code at visits
unfolding reported
rejected_is (ok r) code at visits e = absurd (let z : ◌≡◌ {A = ℕ} 0 1 = cc in omega arith)
rejected_is (refused c p v) code at visits e = cc

of_paper_lem : (code : ℕ) → T (of_paper code) → code ≤ 31
of_paper_lem code h = leb→le code 31 (second (leb 10 code) h)
  where
    second : (y : Bool) → T (y && leb code 31) → T (leb code 31)
    second true k = k
    second false k = absurd k

-- whatever refuses a table is one of the paper's refusals
pub never_of_paper : (rule : Rule) (t : Table) (code at visits : ℕ) → report rule t ≡ rejected code at visits → T (of_paper code)
unfolding report
never_of_paper rule t code at visits e = never rule t code at visits (rejected_is (build_tree rule t) code at visits e)

pub never_above : (rule : Rule) (t : Table) (code at visits : ℕ) → report rule t ≡ rejected code at visits → code ≤ 31
never_above rule t code at visits e = of_paper_lem code (never_of_paper rule t code at visits e)

-- "Four Rust messages never occur and are proved so". An unknown target type: every target is one of the four
pub target_known : (g : ControlFlowTarget)
    → ((block : ℕ) × (g ≡ target_if block)) ⊎ (((block : ℕ) × (g ≡ target_switch block)) ⊎ (((block : ℕ) × (g ≡ target_case block))
    ⊎ ((block continue_block loop_block : ℕ) × (g ≡ target_loop block continue_block loop_block))))
target_known (target_if block) = inl (block, refl)
target_known (target_switch block) = inr (inl (block, refl))
target_known (target_case block) = inr (inr (inl (block, refl)))
target_known (target_loop block continue_block loop_block) = inr (inr (inr (block, continue_block, loop_block, refl)))

pub never_already_scheduled : (rule : Rule) (t : Table) (at visits : ℕ) → report rule t ≡ rejected already_scheduled at visits → ⊥
never_already_scheduled rule t at visits e = omega (arith, never_above rule t already_scheduled at visits e)

pub never_unschedule_out_of_order : (rule : Rule) (t : Table) (at visits : ℕ) → report rule t ≡ rejected unschedule_out_of_order at visits → ⊥
never_unschedule_out_of_order rule t at visits e = omega (arith, never_above rule t unschedule_out_of_order at visits e)

pub never_maybe_throw_in_value_terminal : (rule : Rule) (t : Table) (at visits : ℕ) → report rule t ≡ rejected maybe_throw_in_value_terminal at visits → ⊥
never_maybe_throw_in_value_terminal rule t at visits e = omega (arith, never_above rule t maybe_throw_in_value_terminal at visits e)

-- 99, the terminal of a block that is not there, is no refusal either: such a block is refused 10 before
pub never_absent_terminal : (rule : Rule) (t : Table) (at visits : ℕ) → report rule t ≡ rejected 99 at visits → ⊥
never_absent_terminal rule t at visits e = omega (arith, never_above rule t 99 at visits e)
