-- The entries of the stack and their ids.
use mathlib.Core.Path.{◌≡◌, refl, sym, ap, subst, ◌∙◌}
use mathlib.Core.Bool.{Bool, true, false}
use mathlib.Core.List.{List, ◌∷◌, map}
use Prim.Native.Nat.{ℕ, zero, suc, ◌+◌, ◌-◌, ◌≤◌, ◌<◌}
use native.Mathlib.Omega.{arith}
use lib.Dec.{eqb}
use lib.ListN.{get_or, take, length, length-map}
use borrow.Author.Tests.{eq-eqb}
use Rattle.definition.specs.Context as definition
use Rattle.definition.specs.Context.{ControlFlowTarget, is_blocked, blocked_code, block_asked, pushed, schedule, unschedule, unschedule_top, popped, unscheduled_by}
use Rattle.definition.specs.Result.{Result, ok, refused, ◌>>=◌, refuse_if}
use Rattle.definition.specs.Statement.{BlockResult, unschedule_all}
use Rattle.definition.proofs.Never.{After, WalkFine, walk_fine}
use Rattle.definition.proofs.Steps.{Fine, ok_eq, refused_ok}
use Rattle.definition.specs.Marks.{marks}
use Rattle.control.specs.Abstraction.{context_of, entry_of, no_entry, stack_of}
use Rattle.control.specs.declared.Context as code
use Rattle.control.specs.declared.Entry.{Entry}
use Rattle.control.specs.Contract.{Unscheduled}
use Rattle.control.proofs.ContextLaws.{stack_last, stack_length}
use Rattle.definition.specs.Around.{Around}
use Rattle.table.specs.Table.{table_of}
use Rattle.walk.specs.Met.{traverse_outcome}
use Rattle.walk.specs.State.{state, ids_on, last_ids, Whole, Quiet, Shifted}
use Rattle.walk.specs.declared.state.Walk.{Walk}

-- ---- what a step makes of the entries

-- a nested block leaves the stack as it was
pub same_ids : (words : List ℕ) (levels : ℕ) (around : Around) (block : ℕ) (cx : definition.Context) (r : BlockResult) → traverse_outcome words levels around block cx ≡ ok r
    → ids_on r.context ≡ ids_on cx
unfolding WalkFine
same_ids words levels around block cx r e =
    let after : After cx r.context = subst (λ (r : Result BlockResult). Fine (λ r. After cx r.context) r) e (walk_fine (table_of words) levels around block cx) in
    ap (map (λ (entry : definition.Entry). entry.id)) after.same

pub scheduled_ids : (target : ControlFlowTarget) (cx after : definition.Context) → schedule target cx ≡ ok after → ids_on after ≡ cx.next_id ∷ ids_on cx
unfolding schedule refuse_if ◌>>=◌ pushed
scheduled_ids target cx after e = by (is_blocked target cx.scheduled) e
  where
    by : (blocked : Bool) → (refuse_if blocked (blocked_code target) (block_asked target) cx.visits >>= λ _. ok (pushed target cx)) ≡ ok after → ids_on after ≡ cx.next_id ∷ ids_on cx
    by true q = absurd (refused_ok q)
    by false q = ap ids_on (sym (ok_eq q))

-- ---- so many of the last are taken off

module _ (cx : definition.Context) (top : definition.Entry) (below : List definition.Entry) (is : cx.stack ≡ top ∷ below) where
  below_left : (after : definition.Context) → unschedule top.id cx ≡ ok after → after.stack ≡ below
  unfolding unschedule unschedule_top popped
  below_left after e = by (eqb top.id top.id) (eq-eqb top.id top.id refl) (ap (λ (stack : List definition.Entry). unschedule_top stack top.id cx) (sym is) ∙ e)
    where
      by : (same : Bool) → same ≡ true → elim same [ true ↦ ok (popped below (unscheduled_by top.target top.owns_loop cx.scheduled) cx) | false ↦ refused 91 0 cx.visits ] ≡ ok after → after.stack ≡ below
      by true h q = ap (λ (z : definition.Context). z.stack) (sym (ok_eq q))
      by false h q = absurd (refused_ok q)

  first_off : (n : ℕ) → 0 < n → unschedule_all (last_ids n cx) cx ≡ (unschedule top.id cx >>= λ after. unschedule_all (take (n - 1) (map (λ (entry : definition.Entry). entry.id) below)) after)
  unfolding unschedule_all
  first_off zero f = elim f [ ]
  first_off (suc n) f =
      let e : suc n - 1 ≡ n = omega arith in
      rw e (ap (λ (stack : List definition.Entry). unschedule_all (take (suc n) (map (λ (entry : definition.Entry). entry.id) stack)) cx) is)

  pub takes_on : (n : ℕ) (after : definition.Context) → 0 < n → unschedule top.id cx ≡ ok after → unschedule_all (last_ids n cx) cx ≡ unschedule_all (last_ids (n - 1) after) after
  unfolding ◌>>=◌
  takes_on n after f e = first_off n f ∙ rw (e, below_left after e) refl

pub takes_none : (n : ℕ) (cx : definition.Context) → n ≡ 0 → unschedule_all (last_ids n cx) cx ≡ ok cx
unfolding unschedule_all
takes_none n cx e = rw e refl

-- the stack of the code
pub ids_length : (visits : ℕ) (cx : code.Context) → length (ids_on (context_of visits cx)) ≡ cx.len
unfolding context_of
ids_length visits cx = length-map (stack_of cx.stack cx.len) (λ (entry : definition.Entry). entry.id) ∙ stack_length cx.stack cx.len

-- of `count` entries `left` are still to be taken off
pub record Taken (start : Walk) (count left : ℕ) (now : Walk) : Type 0 where
  pub quiet : Quiet start now
  pub visits : now.tally.visits ≡ start.tally.visits
  pub marks : marks now.cx.emitted ≡ marks start.cx.emitted
  pub len : now.cx.len + count ≡ start.cx.len + left
  pub id : now.cx.next_schedule_id ≡ start.cx.next_schedule_id
  pub whole : Whole now.cx
  pub few : left ≤ count
  pub there : left ≤ now.cx.len
  pub same : unschedule_all (last_ids count (state start)) (state start) ≡ unschedule_all (last_ids left (state now)) (state now)

pub none_taken : (start : Walk) (count : ℕ) → Whole start.cx → count ≤ start.cx.len → Taken start count count start
none_taken start count whole there = record {
  quiet = record { tree = refl; index = refl; rows = refl; lines = refl };
  visits = refl;
  marks = refl;
  len = refl;
  id = refl;
  whole = whole;
  few = omega arith;
  there = there;
  same = refl;
}

pub one_taken : {start now : Walk} {count left : ℕ} {cx : code.Context} (last : Entry) → Taken start count left now → 0 < left → last ≡ get_or now.cx.stack (now.cx.len - 1) no_entry
    → Unscheduled last now.cx cx → Taken start count (left - 1) (record { cx = cx; tally = now.tally; lines = now.lines; tree = now.tree; index = now.index })
unfolding context_of
one_taken {start} {now} {count} {left} {cx} last taken f is off =
    let nonempty : 0 < now.cx.len = omega (arith, taken.there, f) in
    record {
      quiet = record { tree = taken.quiet.tree; index = taken.quiet.index; rows = taken.quiet.rows; lines = taken.quiet.lines };
      visits = taken.visits;
      marks = rw off.state taken.marks;
      len = omega (arith, taken.len, off.len, nonempty, f);
      id = omega (arith, taken.id, off.id);
      whole = record { emitted = rw off.state taken.whole.emitted; stack = rw off.state taken.whole.stack; bounded = off.bounded taken.whole.bounded };
      few = omega (arith, taken.few);
      there = omega (arith, taken.there, off.len, f);
      same = taken.same ∙ takes_on (state now) (entry_of last) (stack_of now.cx.stack (now.cx.len - 1)) (stack_last now.cx.stack now.cx.len last nonempty is) left _ f (off.context now.tally.visits);
    }

pub all_taken : {start now : Walk} {count left : ℕ} → Taken start count left now → left ≤ 0 → (unschedule_all (last_ids count (state start)) (state start) ≡ ok (state now)) × Shifted start now 0 count
all_taken {now = now} {left = left} taken e =
    (taken.same ∙ takes_none left (state now) (omega (arith, e)), record { quiet = taken.quiet; visits = taken.visits; marks = taken.marks; len = omega (arith, taken.len, e); id = omega (arith, taken.id); whole = taken.whole })
