-- The count of visits over any table: it begins at 0, a visit adds one while it is below 8,192, and every other step hands it on. So no outcome has more
-- than 8,192, whatever the words and the lent buffer, refused or not; and a walk never lowers it (proofs/Enough).
use mathlib.Core.Path.{◌≡◌, refl}
use Prim.Native.Nat.{ℕ, zero, suc, ◌≤◌, ◌<◌, ◌/◌}
use native.Mathlib.Omega.{arith}
use mathlib.Core.List.{List, [], ◌∷◌}
use mathlib.Core.Option.{Option, none, some}
use mathlib.Core.Bool.{Bool, true, false}
use lib.ListN.{length}
use lib.Dec.{eqb, leb}
use borrow.Author.Tests.{leb-false}
use Rattle.table.specs.declared.columns.Span.{Span}
use Rattle.table.specs.Check.{Verdict, checked}
use Rattle.table.specs.Check as check
use Rattle.table.specs.Table.{Table, Block, Case, Terminal, absent, unreachable, throw, return, goto, if, branch, switch, do_while, while, for, for_of, for_in}
use Rattle.table.specs.Table.{logical, ternary, optional, sequence, maybe_throw, try, scope, Variant, Break, Continue, Try, label, table_of, block_at, terminal_at}
use Rattle.definition.specs.Result.{Result, ok, refused}
use Rattle.definition.specs.Tree.{Kind, implicit, labeled, unlabeled, Statement, Statements}
use Rattle.definition.specs.Context.{ControlFlowTarget, target_if, target_switch, target_case, target_loop, has, Entry, Context, start, emit, with_visits}
use Rattle.definition.specs.Context.{mark_scope_fallthrough, schedule_catch_handler, pushed, schedule, popped, unschedule_top, unschedule, is_scheduled}
use Rattle.definition.specs.Context.{Resolution}
use Rattle.definition.specs.Value.{most_visits, begin_visit, VisitValueBlock, ValueBlockResult, Ways, extract_value_block_result, extract_or_refuse}
use Rattle.definition.specs.Value.{test_block_ended, visit_test_block, visit_value_block_terminal, then_fallthrough, branch_value, maybe_throw_value}
use Rattle.definition.specs.Value.{visit_value_block_at, visit_value_block}
use Rattle.definition.specs.Around.{Rule, Around, outermost}
use Rattle.definition.specs.Statement.{TraverseBlock, TraverseInside, BlockResult, enter_block, unless_scheduled}
use Rattle.definition.specs.Statement.{unless_unreachable, schedule_if, schedule_switch, unschedule_if, mark_scope_fallthrough_if, break_to_scope, break_resolved}
use Rattle.definition.specs.Statement.{visit_break, continue_resolved, visit_continue, visit_goto, traverse_unscheduled, traverse_alternate, traverse_consequent}
use Rattle.definition.specs.Statement.{traverse_enclosed, traverse_loop, visit_update, traverse_cases, unschedule_all, cases_last_first}
use Rattle.definition.specs.Statement.{visit_value_statement, visit_terminal, then_next, visit_block, traverse_block, build_tree}
use Rattle.definition.specs.Build.{Report, accepted, rejected, reported, report, refusal, placed, outcome_of, after_check, built}
use Rattle.definition.proofs.Steps.{Counted, counted_bind, counted_unless, counted_pick}

-- a step whose result has no count of its own keeps the one that it was given
abbrev kept : {A : Type 0} → ℕ → A → ℕ
kept visits a = visits

-- what holds of a count, and of the next while it is below 8,192, holds of every count that a walk comes to
module _ (Q : ℕ → Type 0) (again : (visits : ℕ) → visits < most_visits → Q visits → Q (suc visits)) where
  -- ---- the value walk

  begin_counted : (t : Table) (block visits : ℕ) → Q visits → Counted Q (λ begun. begun) (begin_visit t block visits)
  unfolding begin_visit
  begin_counted t block visits h =
      counted_unless Q (λ begun. begun) _ 31 block visits _ h (λ few.
      counted_unless Q (λ begun. begun) _ 10 block (suc visits) _ (again visits (leb-false 8192 visits few) h) (λ _. again visits (leb-false 8192 visits few) h))

  extract_counted : (t : Table) (block : ℕ) (rows : List ℕ) (visits code at : ℕ) → Q visits → Counted Q (λ r. r.visits) (extract_or_refuse t block rows visits code at)
  unfolding extract_or_refuse extract_value_block_result
  extract_counted t block [] visits code at h = h
  extract_counted t block (row ∷ rows) visits code at h = h

  branch_value_counted : (t : Table) (block test id : ℕ) (rows : List ℕ) (visits : ℕ) → Q visits → Counted Q (λ r. r.visits) (branch_value t block test id rows visits)
  unfolding branch_value extract_value_block_result
  branch_value_counted t block test id [] visits h = h
  branch_value_counted t block test id (row ∷ rows) visits h = h

  test_ended_counted : (test : ValueBlockResult) (ways : Option Ways) (at : ℕ) → Q test.visits → Counted Q (λ r. r.test.visits) (test_block_ended test ways at)
  unfolding test_block_ended
  test_ended_counted test none at h = h
  test_ended_counted test (some ways) at h = h

  unfoldable pub VisitCounted : VisitValueBlock → Type 0
  VisitCounted visit = (block : ℕ) (fallthrough : Option ℕ) (span : Span) (visits : ℕ) → Q visits → Counted Q (λ r. r.visits) (visit block fallthrough span visits)

  module _ (t : Table) (visit : VisitValueBlock) (visits_counted : VisitCounted visit) where
    pub nested : (block : ℕ) (fallthrough : Option ℕ) (span : Span) (visits : ℕ) → Q visits → Counted Q (λ r. r.visits) (visit block fallthrough span visits)
    unfolding VisitCounted
    nested block fallthrough span visits h = visits_counted block fallthrough span visits h

    test_counted : (block : ℕ) (span : Span) (visits at : ℕ) → Q visits → Counted Q (λ r. r.test.visits) (visit_test_block t visit block span visits at)
    unfolding visit_test_block
    test_counted block span visits at h = counted_bind Q (λ r. r.visits) (λ r. r.test.visits) _ _ (nested block none span visits h) (λ test k. test_ended_counted test _ at k)

    value_terminal_counted : (m : Terminal) (id : ℕ) (span : Span) (visits at : ℕ) → Q visits → Counted Q (λ r. r.visits) (visit_value_block_terminal t visit m id span visits at)
    unfolding visit_value_block_terminal
    value_terminal_counted absent id span visits at h = h
    value_terminal_counted unreachable id span visits at h = h
    value_terminal_counted (throw value) id span visits at h = h
    value_terminal_counted (return value) id span visits at h = h
    value_terminal_counted (goto block variant) id span visits at h = h
    value_terminal_counted (if test consequent alternate fallthrough) id span visits at h = h
    value_terminal_counted (branch test consequent alternate) id span visits at h = h
    value_terminal_counted (switch test first number fallthrough) id span visits at h = h
    value_terminal_counted (do_while loop test fallthrough) id span visits at h = h
    value_terminal_counted (while test loop fallthrough) id span visits at h = h
    value_terminal_counted (for init test update loop fallthrough) id span visits at h = h
    value_terminal_counted (for_of init test loop fallthrough) id span visits at h = h
    value_terminal_counted (for_in init loop fallthrough) id span visits at h = h
    value_terminal_counted (logical operator test fallthrough) id span visits at h =
        counted_bind Q (λ r. r.test.visits) (λ r. r.visits) _ _ (test_counted test span visits at h) (λ tested a.
        counted_bind Q (λ r. r.visits) (λ r. r.visits) _ _ (nested _ _ _ _ a) (λ left b.
        counted_bind Q (λ r. r.visits) (λ r. r.visits) _ _ (nested _ _ _ _ b) (λ right c. c)))
    value_terminal_counted (ternary test fallthrough) id span visits at h =
        counted_bind Q (λ r. r.test.visits) (λ r. r.visits) _ _ (test_counted test span visits at h) (λ tested a.
        counted_bind Q (λ r. r.visits) (λ r. r.visits) _ _ (nested _ _ _ _ a) (λ consequent b.
        counted_bind Q (λ r. r.visits) (λ r. r.visits) _ _ (nested _ _ _ _ b) (λ alternate c. c)))
    value_terminal_counted (optional flag test fallthrough) id span visits at h =
        counted_bind Q (λ r. r.test.visits) (λ r. r.visits) _ _ (test_counted test span visits at h) (λ tested a.
        counted_bind Q (λ r. r.visits) (λ r. r.visits) _ _ (nested _ _ _ _ a) (λ consequent b. b))
    value_terminal_counted (label block fallthrough) id span visits at h = h
    value_terminal_counted (sequence block fallthrough) id span visits at h =
        counted_bind Q (λ r. r.visits) (λ r. r.visits) _ _ (nested _ _ _ _ h) (λ inner a. a)
    value_terminal_counted (maybe_throw continuation) id span visits at h = h
    value_terminal_counted (try block handler fallthrough binding) id span visits at h = h
    value_terminal_counted (scope pruned block fallthrough number) id span visits at h = h

    maybe_throw_counted : (number continuation : ℕ) (rows : List ℕ) (fallthrough : Option ℕ) (span : Span) (visits : ℕ) (own : Bool) → Q visits
        → Counted Q (λ r. r.visits) (maybe_throw_value t visit number continuation rows fallthrough span visits own)
    unfolding maybe_throw_value
    maybe_throw_counted number continuation rows fallthrough span visits true h = extract_counted t continuation rows visits 28 number h
    maybe_throw_counted number continuation rows fallthrough span visits false h =
        counted_bind Q (λ r. r.visits) (λ r. r.visits) _ _ (nested continuation fallthrough span visits h) (λ final a. a)

    through_counted : (m : Terminal) (number : ℕ) (block : Block) (span : Span) (visits : ℕ) → Q visits
        → Counted Q (λ r. r.visits) (then_fallthrough t visit block span (visit_value_block_terminal t visit m block.id block.span visits number))
    unfolding then_fallthrough
    through_counted m number block span visits h =
        counted_bind Q (λ r. r.visits) (λ r. r.visits) _ _ (value_terminal_counted m block.id block.span visits number h) (λ init a.
        counted_bind Q (λ r. r.visits) (λ r. r.visits) _ _ (nested _ _ _ _ a) (λ final b. b))

    value_block_counted : (m : Terminal) (number : ℕ) (block : Block) (outer : Option ℕ) (span : Span) (visits : ℕ) → Q visits
        → Counted Q (λ r. r.visits) (visit_value_block_at t visit m number block outer span visits)
    unfolding visit_value_block_at
    value_block_counted absent number block outer span visits h = through_counted _ number block span visits h
    value_block_counted unreachable number block outer span visits h = through_counted _ number block span visits h
    value_block_counted (throw value) number block outer span visits h = through_counted _ number block span visits h
    value_block_counted (return value) number block outer span visits h = through_counted _ number block span visits h
    value_block_counted (goto target variant) number block outer span visits h = extract_counted t number _ visits 24 number h
    value_block_counted (if test consequent alternate fallthrough) number block outer span visits h = through_counted _ number block span visits h
    value_block_counted (branch test consequent alternate) number block outer span visits h = branch_value_counted t number test block.id _ visits h
    value_block_counted (switch test first cases fallthrough) number block outer span visits h = through_counted _ number block span visits h
    value_block_counted (do_while loop test fallthrough) number block outer span visits h = through_counted _ number block span visits h
    value_block_counted (while test loop fallthrough) number block outer span visits h = through_counted _ number block span visits h
    value_block_counted (for init test update loop fallthrough) number block outer span visits h = through_counted _ number block span visits h
    value_block_counted (for_of init test loop fallthrough) number block outer span visits h = through_counted _ number block span visits h
    value_block_counted (for_in init loop fallthrough) number block outer span visits h = through_counted _ number block span visits h
    value_block_counted (logical operator test fallthrough) number block outer span visits h = through_counted _ number block span visits h
    value_block_counted (ternary test fallthrough) number block outer span visits h = through_counted _ number block span visits h
    value_block_counted (optional flag test fallthrough) number block outer span visits h = through_counted _ number block span visits h
    value_block_counted (label body fallthrough) number block outer span visits h = through_counted _ number block span visits h
    value_block_counted (sequence body fallthrough) number block outer span visits h = through_counted _ number block span visits h
    value_block_counted (maybe_throw continuation) number block outer span visits h =
        counted_unless Q (λ r. r.visits) _ 10 continuation visits _ h (λ _. maybe_throw_counted number continuation _ outer span visits _ h)
    value_block_counted (try body handler fallthrough binding) number block outer span visits h = through_counted _ number block span visits h
    value_block_counted (scope pruned body fallthrough scoped) number block outer span visits h = through_counted _ number block span visits h

    update_counted : (update : Option ℕ) (span : Span) (visits : ℕ) → Q visits → Counted Q (λ w. w.visits) (visit_update visit update span visits)
    unfolding visit_update
    update_counted none span visits h = h
    update_counted (some update) span visits h = counted_bind Q (λ r. r.visits) (λ w. w.visits) _ _ (nested update none span visits h) (λ r a. a)

  pub value_counted : (t : Table) (depth_left : ℕ) → VisitCounted (visit_value_block t depth_left)
  unfolding VisitCounted visit_value_block
  value_counted t zero block fallthrough span visits h = h
  value_counted t (suc depth_left) block fallthrough span visits h =
      counted_bind Q (λ begun. begun) (λ r. r.visits) _ _ (begin_counted t block visits h) (λ begun a.
      counted_unless Q (λ r. r.visits) _ 23 block begun _ a (λ _.
      value_block_counted t (visit_value_block t depth_left) (value_counted t depth_left) (terminal_at t block) block (block_at t block) fallthrough span begun a))

  -- ---- the control stack

  abbrev pub In : Context → Type 0
  In cx = Q cx.visits

  pub schedule_counted : (target : ControlFlowTarget) (cx : Context) → In cx → Counted Q (λ d. d.visits) (schedule target cx)
  unfolding schedule pushed
  schedule_counted target cx h = counted_unless Q (λ d. d.visits) _ _ _ cx.visits _ h (λ _. h)

  schedule_if_counted : (taken : Option ℕ) (cx : Context) → In cx → Counted Q (λ d. d.visits) (schedule_if taken cx)
  unfolding schedule_if
  schedule_if_counted none cx h = h
  schedule_if_counted (some fallthrough) cx h = schedule_counted (target_if fallthrough) cx h

  schedule_switch_counted : (taken : Option ℕ) (cx : Context) → In cx → Counted Q (λ d. d.visits) (schedule_switch taken cx)
  unfolding schedule_switch
  schedule_switch_counted none cx h = h
  schedule_switch_counted (some fallthrough) cx h = schedule_counted (target_switch fallthrough) cx h

  pub unschedule_counted : (id : ℕ) (cx : Context) → In cx → Counted Q (λ d. d.visits) (unschedule id cx)
  unfolding unschedule unschedule_top popped
  unschedule_counted id cx h = at cx.stack
    where
      at : (stack : List Entry) → Counted Q (λ d. d.visits) (unschedule_top stack id cx)
      at [] = h
      at (top ∷ below) = counted_pick Q (λ d. d.visits) (eqb top.id id) _ _ (λ _. h) (λ _. h)

  pub unschedule_if_counted : (taken : Option ℕ) (id : ℕ) (cx : Context) → In cx → Counted Q (λ d. d.visits) (unschedule_if taken id cx)
  unfolding unschedule_if
  unschedule_if_counted none id cx h = h
  unschedule_if_counted (some fallthrough) id cx h = unschedule_counted id cx h

  pub unschedule_all_counted : (ids : List ℕ) (cx : Context) → In cx → Counted Q (λ d. d.visits) (unschedule_all ids cx)
  unfolding unschedule_all
  unschedule_all_counted [] cx h = h
  unschedule_all_counted (id ∷ ids) cx h = counted_bind Q (λ d. d.visits) (λ d. d.visits) _ _ (unschedule_counted id cx h) (λ d k. unschedule_all_counted ids d k)

  mark_in : (taken : Option ℕ) (cx : Context) → In cx → In (mark_scope_fallthrough_if taken cx)
  unfolding mark_scope_fallthrough_if mark_scope_fallthrough
  mark_in none cx h = h
  mark_in (some fallthrough) cx h = h

  reachable_counted : (t : Table) (cx : Context) (fallthrough : ℕ) → In cx → Counted Q (kept cx.visits) (unless_unreachable t cx fallthrough)
  unfolding unless_unreachable
  reachable_counted t cx fallthrough h = counted_unless Q (kept cx.visits) _ 10 fallthrough cx.visits _ h (λ _. h)

  -- ---- jumps

  to_scope_counted : (kind : Kind) (at visits : ℕ) → Q visits → Counted Q (kept visits) (break_to_scope kind at visits)
  unfolding break_to_scope
  to_scope_counted implicit at visits h = h
  to_scope_counted labeled at visits h = h
  to_scope_counted unlabeled at visits h = h

  break_counted : (around : Around) (at block id : ℕ) (cx : Context) (found : Option Resolution) → In cx
      → Counted Q (kept cx.visits) (break_resolved around at block id cx found)
  unfolding break_resolved
  break_counted around at block id cx none h = h
  break_counted around at block id cx (some found) h =
      counted_pick Q (kept cx.visits) (has cx.scope_fallthroughs found.target) _ _ (λ _. to_scope_counted found.kind at cx.visits h)
      (λ _. counted_unless Q (kept cx.visits) _ 29 at cx.visits _ h (λ _. h))

  continue_counted : (around : Around) (at block id : ℕ) (cx : Context) (found : Option Resolution) → In cx
      → Counted Q (kept cx.visits) (continue_resolved around at block id cx found)
  unfolding continue_resolved
  continue_counted around at block id cx none h = h
  continue_counted around at block id cx (some found) h = counted_unless Q (kept cx.visits) _ 29 at cx.visits _ h (λ _. h)

  goto_counted : (around : Around) (variant : Variant) (at block id : ℕ) (cx : Context) → In cx
      → Counted Q (λ r. r.context.visits) (visit_goto around variant at block id cx)
  unfolding visit_goto visit_break visit_continue
  goto_counted around Break at block id cx h = counted_bind Q (kept cx.visits) (λ r. r.context.visits) _ _ (break_counted around at block id cx _ h) (λ _ k. k)
  goto_counted around Continue at block id cx h =
      counted_bind Q (kept cx.visits) (λ r. r.context.visits) _ _ (continue_counted around at block id cx _ h) (λ _ k. k)
  goto_counted around Try at block id cx h = h

  -- ---- the statement walk

  unfoldable pub WalkCounted : TraverseBlock → Type 0
  WalkCounted walk = (block : ℕ) (cx : Context) → In cx → Counted Q (λ r. r.context.visits) (walk block cx)

  module _ (t : Table) (visit : VisitValueBlock) (visits_counted : VisitCounted visit) (traverse : TraverseBlock) (walk_counted : WalkCounted traverse) where
    inner : (block : ℕ) (cx : Context) → In cx → Counted Q (λ r. r.context.visits) (traverse block cx)
    unfolding WalkCounted
    inner block cx h = walk_counted block cx h

    value : (block : ℕ) (span : Span) (visits : ℕ) → Q visits → Counted Q (λ r. r.visits) (visit block none span visits)
    value block span visits h = nested t visit visits_counted block none span visits h

    pub unscheduled_counted : (block code at : ℕ) (cx : Context) → In cx → Counted Q (λ r. r.context.visits) (traverse_unscheduled traverse block code at cx)
    unfolding traverse_unscheduled
    unscheduled_counted block code at cx h = counted_unless Q (λ r. r.context.visits) _ code at cx.visits _ h (λ _. inner block cx h)

    pub alternate_counted : (alternate fallthrough : ℕ) (cx : Context) → In cx → Counted Q (λ r. r.context.visits) (traverse_alternate traverse alternate fallthrough cx)
    unfolding traverse_alternate
    alternate_counted alternate fallthrough cx h =
        counted_pick Q (λ r. r.context.visits) (eqb alternate fallthrough) _ _ (λ _. h)
        (λ _. counted_bind Q (λ r. r.context.visits) (λ r. r.context.visits) _ _ (unscheduled_counted alternate 13 alternate cx h) (λ _ k. k))

    consequent_counted : (around : Around) (at consequent id : ℕ) (cx : Context) → In cx
        → Counted Q (λ r. r.context.visits) (traverse_consequent around traverse at consequent id cx)
    unfolding traverse_consequent visit_break
    consequent_counted around at consequent id cx h =
        counted_pick Q (λ r. r.context.visits) (is_scheduled cx consequent) _ _
        (λ _. counted_bind Q (kept cx.visits) (λ r. r.context.visits) _ _ (break_counted around at consequent id cx _ h) (λ _ k. k)) (λ _. inner consequent cx h)

    enclosed_counted : (block code at : ℕ) (taken : Option ℕ) (before inside : Context) (make : Statements → Statement) → In inside
        → Counted Q (λ r. r.context.visits) (traverse_enclosed traverse block code at taken before inside make)
    unfolding traverse_enclosed
    enclosed_counted block code at taken before inside make h =
        counted_bind Q (λ r. r.context.visits) (λ r. r.context.visits) _ _ (unscheduled_counted block code at inside h) (λ body a.
        counted_bind Q (λ d. d.visits) (λ r. r.context.visits) _ _ (unschedule_if_counted taken before.next_id body.context a) (λ _ k. k))

    loop_counted : (at loop : ℕ) (taken : Bool) (visits id : ℕ) (cx : Context) (fallthrough : Option ℕ) (make : Statements → Statement) → Q visits
        → Counted Q (λ r. r.context.visits) (traverse_loop traverse at loop taken visits id cx fallthrough make)
    unfolding traverse_loop with_visits
    loop_counted at loop taken visits id cx fallthrough make h =
        counted_unless Q (λ r. r.context.visits) taken 16 at visits _ h (λ _.
        counted_bind Q (λ r. r.context.visits) (λ r. r.context.visits) _ _ (inner loop (with_visits visits cx) h) (λ body a.
        counted_bind Q (λ d. d.visits) (λ r. r.context.visits) _ _ (unschedule_counted id body.context a) (λ _ k. k)))

    pub cases_counted : (at fallthrough : ℕ) (cases : List Case) (ids : List ℕ) (cx : Context) → In cx → Counted Q (λ r. r.context.visits) (traverse_cases traverse at fallthrough cases ids cx)
    unfolding traverse_cases
    cases_counted at fallthrough [] ids cx h = h
    cases_counted at fallthrough (case ∷ earlier) ids cx h =
        counted_pick Q (λ r. r.context.visits) (is_scheduled cx case.block) _ _
        (λ _. counted_unless Q (λ r. r.context.visits) _ 14 at cx.visits _ h (λ _. cases_counted at fallthrough earlier ids cx h))
        (λ _. counted_bind Q (λ r. r.context.visits) (λ r. r.context.visits) _ _ (inner case.block cx h) (λ body a.
        counted_bind Q (λ d. d.visits) (λ r. r.context.visits) _ _ (schedule_counted (target_case case.block) body.context a) (λ after b.
        counted_bind Q (λ r. r.context.visits) (λ r. r.context.visits) _ _ (cases_counted at fallthrough earlier (body.context.next_id ∷ ids) after b) (λ _ k. k))))

    value_statement_counted : (m : Terminal) (at : ℕ) (block : Block) (fallthrough : ℕ) (cx : Context) → In cx
        → Counted Q (λ r. r.context.visits) (visit_value_statement t visit m at block fallthrough cx)
    unfolding visit_value_statement with_visits
    value_statement_counted m at block fallthrough cx h =
        counted_bind Q (λ d. d.visits) (λ r. r.context.visits) _ _ (schedule_if_counted (unless_scheduled cx fallthrough) cx h) (λ inside a.
        counted_bind Q (λ r. r.visits) (λ r. r.context.visits) _ _ (value_terminal_counted t visit visits_counted m block.id block.span inside.visits at a) (λ result b.
        counted_bind Q (λ d. d.visits) (λ r. r.context.visits) _ _ (unschedule_if_counted (unless_scheduled cx fallthrough) cx.next_id (with_visits result.visits inside) b) (λ _ k. k)))

  module _ (t : Table) (visit : VisitValueBlock) (visits_counted : VisitCounted visit) (traverse : TraverseInside) (walk_counted : (around : Around) → WalkCounted (traverse around)) where
    pub terminal_counted : (around : Around) (m : Terminal) (at : ℕ) (block : Block) (cx : Context) → In cx
        → Counted Q (λ r. r.context.visits) (visit_terminal t visit traverse around m at block cx)
    unfolding visit_terminal schedule_catch_handler with_visits
    terminal_counted around absent at block cx h = h
    terminal_counted around unreachable at block cx h = h
    terminal_counted around (throw x) at block cx h = h
    terminal_counted around (return x) at block cx h = h
    terminal_counted around (goto target variant) at block cx h = goto_counted around variant at target block.id cx h
    terminal_counted around (if test consequent alternate fallthrough) at block cx h =
        counted_bind Q (kept cx.visits) (λ r. r.context.visits) _ _ (reachable_counted t cx fallthrough h) (λ taken _.
        counted_bind Q (λ d. d.visits) (λ r. r.context.visits) _ _ (schedule_if_counted taken cx h) (λ inside a.
        counted_bind Q (λ r. r.context.visits) (λ r. r.context.visits) _ _ (unscheduled_counted t visit visits_counted _ (walk_counted _) consequent 12 consequent inside a) (λ first b.
        counted_bind Q (λ r. r.context.visits) (λ r. r.context.visits) _ _ (alternate_counted t visit visits_counted _ (walk_counted _) alternate fallthrough first.context b) (λ second c.
        counted_bind Q (λ d. d.visits) (λ r. r.context.visits) _ _ (unschedule_if_counted taken cx.next_id second.context c) (λ _ k. k)))))
    terminal_counted around (branch test consequent alternate) at block cx h =
        counted_bind Q (λ r. r.context.visits) (λ r. r.context.visits) _ _ (consequent_counted t visit visits_counted _ (walk_counted _) around at consequent block.id cx h) (λ first a.
        counted_bind Q (λ r. r.context.visits) (λ r. r.context.visits) _ _ (unscheduled_counted t visit visits_counted _ (walk_counted _) alternate 19 at first.context a) (λ _ k. k))
    terminal_counted around (switch test first number fallthrough) at block cx h =
        counted_bind Q (kept cx.visits) (λ r. r.context.visits) _ _ (reachable_counted t cx fallthrough h) (λ taken _.
        counted_bind Q (λ d. d.visits) (λ r. r.context.visits) _ _ (schedule_switch_counted taken cx h) (λ inside a.
        counted_bind Q (λ r. r.context.visits) (λ r. r.context.visits) _ _
        (cases_counted t visit visits_counted _ (walk_counted _) at fallthrough (cases_last_first t first number) _ inside a) (λ cases b.
        counted_bind Q (λ d. d.visits) (λ r. r.context.visits) _ _ (unschedule_all_counted cases.ids cases.context b) (λ _ k. k))))
    terminal_counted around (do_while loop test fallthrough) at block cx h =
        counted_bind Q (λ d. d.visits) (λ r. r.context.visits) _ _ (schedule_counted (target_loop fallthrough test loop) cx h) (λ inside a.
        counted_unless Q (λ r. r.context.visits) _ 16 at inside.visits _ a (λ _.
        counted_bind Q (λ r. r.context.visits) (λ r. r.context.visits) _ _ (inner t visit visits_counted _ (walk_counted _) loop inside a) (λ body b.
        counted_bind Q (λ r. r.visits) (λ r. r.context.visits) _ _ (value t visit visits_counted _ (walk_counted around) test block.span body.context.visits b) (λ tested c.
        counted_bind Q (λ d. d.visits) (λ r. r.context.visits) _ _ (unschedule_counted cx.next_id (with_visits tested.visits body.context) c) (λ _ k. k)))))
    terminal_counted around (while test loop fallthrough) at block cx h =
        counted_bind Q (kept cx.visits) (λ r. r.context.visits) _ _ (reachable_counted t cx fallthrough h) (λ taken _.
        counted_bind Q (λ d. d.visits) (λ r. r.context.visits) _ _ (schedule_counted (target_loop fallthrough test loop) cx h) (λ inside a.
        counted_bind Q (λ r. r.visits) (λ r. r.context.visits) _ _ (value t visit visits_counted _ (walk_counted around) test block.span inside.visits a) (λ tested b.
        loop_counted t visit visits_counted _ (walk_counted _) at loop _ tested.visits cx.next_id inside taken _ b)))
    terminal_counted around (for init test update loop fallthrough) at block cx h =
        counted_bind Q (λ d. d.visits) (λ r. r.context.visits) _ _ (schedule_counted _ cx h) (λ inside a.
        counted_bind Q (λ r. r.visits) (λ r. r.context.visits) _ _ (value t visit visits_counted _ (walk_counted around) init block.span inside.visits a) (λ first b.
        counted_bind Q (λ r. r.visits) (λ r. r.context.visits) _ _ (value t visit visits_counted _ (walk_counted around) test block.span first.visits b) (λ tested c.
        counted_bind Q (λ r. r.visits) (λ r. r.context.visits) _ _ (update_counted t visit visits_counted update block.span tested.visits c) (λ updated d.
        loop_counted t visit visits_counted _ (walk_counted _) at loop _ updated.visits cx.next_id inside _ _ d))))
    terminal_counted around (for_of init test loop fallthrough) at block cx h =
        counted_bind Q (λ d. d.visits) (λ r. r.context.visits) _ _ (schedule_counted (target_loop fallthrough init loop) cx h) (λ inside a.
        counted_bind Q (λ r. r.visits) (λ r. r.context.visits) _ _ (value t visit visits_counted _ (walk_counted around) init block.span inside.visits a) (λ first b.
        counted_bind Q (λ r. r.visits) (λ r. r.context.visits) _ _ (value t visit visits_counted _ (walk_counted around) test block.span first.visits b) (λ tested c.
        loop_counted t visit visits_counted _ (walk_counted _) at loop _ tested.visits cx.next_id inside _ _ c)))
    terminal_counted around (for_in init loop fallthrough) at block cx h =
        counted_bind Q (λ d. d.visits) (λ r. r.context.visits) _ _ (schedule_counted (target_loop fallthrough init loop) cx h) (λ inside a.
        counted_bind Q (λ r. r.visits) (λ r. r.context.visits) _ _ (value t visit visits_counted _ (walk_counted around) init block.span inside.visits a) (λ first b.
        loop_counted t visit visits_counted _ (walk_counted _) at loop _ first.visits cx.next_id inside _ _ b))
    terminal_counted around (logical operator test fallthrough) at block cx h = value_statement_counted t visit visits_counted _ (walk_counted around) _ at block fallthrough cx h
    terminal_counted around (ternary test fallthrough) at block cx h = value_statement_counted t visit visits_counted _ (walk_counted around) _ at block fallthrough cx h
    terminal_counted around (optional flag test fallthrough) at block cx h = value_statement_counted t visit visits_counted _ (walk_counted around) _ at block fallthrough cx h
    terminal_counted around (label body fallthrough) at block cx h =
        counted_bind Q (kept cx.visits) (λ r. r.context.visits) _ _ (reachable_counted t cx fallthrough h) (λ taken _.
        counted_bind Q (λ d. d.visits) (λ r. r.context.visits) _ _ (schedule_if_counted taken cx h) (λ inside a.
        enclosed_counted t visit visits_counted _ (walk_counted _) body 17 at taken cx inside _ a))
    terminal_counted around (sequence body fallthrough) at block cx h = value_statement_counted t visit visits_counted _ (walk_counted around) _ at block fallthrough cx h
    terminal_counted around (maybe_throw continuation) at block cx h = h
    terminal_counted around (try body handler fallthrough binding) at block cx h =
        counted_bind Q (kept cx.visits) (λ r. r.context.visits) _ _ (reachable_counted t cx fallthrough h) (λ taken _.
        counted_bind Q (λ d. d.visits) (λ r. r.context.visits) _ _ (schedule_if_counted taken cx h) (λ inside a.
        counted_bind Q (λ r. r.context.visits) (λ r. r.context.visits) _ _ (inner t visit visits_counted _ (walk_counted _) body (schedule_catch_handler handler inside) a) (λ first b.
        counted_bind Q (λ r. r.context.visits) (λ r. r.context.visits) _ _ (inner t visit visits_counted _ (walk_counted _) handler first.context b) (λ second c.
        counted_bind Q (λ d. d.visits) (λ r. r.context.visits) _ _ (unschedule_if_counted taken cx.next_id second.context c) (λ _ k. k)))))
    terminal_counted around (scope pruned body fallthrough number) at block cx h =
        counted_bind Q (λ d. d.visits) (λ r. r.context.visits) _ _ (schedule_if_counted (unless_scheduled cx fallthrough) cx h) (λ inside a.
        enclosed_counted t visit visits_counted _ (walk_counted _) body 18 at _ cx _ _ (mark_in (unless_scheduled cx fallthrough) inside a))

    pub next_counted : (at : ℕ) (again : TraverseBlock) (statement : Option Statement) (next : Option ℕ) (cx : Context) → WalkCounted again → In cx
        → Counted Q (λ r. r.context.visits) (then_next t at again statement next cx)
    unfolding then_next WalkCounted
    next_counted at again statement none cx w h = h
    next_counted at again statement (some next) cx w h = counted_bind Q (λ r. r.context.visits) (λ r. r.context.visits) _ _ (w next cx h) (λ _ k. k)

    enter_counted : (block : ℕ) (cx : Context) → In cx → Counted Q (λ d. d.visits) (enter_block t block cx)
    unfolding enter_block emit with_visits
    enter_counted block cx h =
        counted_bind Q (λ begun. begun) (λ d. d.visits) _ _ (begin_counted t block cx.visits h) (λ begun a.
        counted_unless Q (λ d. d.visits) _ 11 block begun _ a (λ _. a))

    pub blocks_counted : (around : Around) (blocks_left : ℕ) → WalkCounted (visit_block t visit traverse around blocks_left)
    unfolding visit_block WalkCounted
    blocks_counted around zero block cx h = h
    blocks_counted around (suc blocks_left) block cx h =
        counted_bind Q (λ d. d.visits) (λ r. r.context.visits) _ _ (enter_counted block cx h) (λ entered a.
        counted_bind Q (λ r. r.context.visits) (λ r. r.context.visits) _ _ (terminal_counted around (terminal_at t block) block (block_at t block) entered a) (λ result b.
        next_counted block (visit_block t visit traverse around blocks_left) result.statement result.next result.context (blocks_counted around blocks_left) b))

  pub statements_counted : (t : Table) (depth_left : ℕ) (around : Around) → WalkCounted (traverse_block t depth_left around)
  unfolding traverse_block WalkCounted
  statements_counted t zero around block cx h = h
  statements_counted t (suc depth_left) around block cx h =
      blocks_counted t (visit_value_block t depth_left) (value_counted t depth_left) (traverse_block t depth_left) (statements_counted t depth_left) around (suc most_visits) block cx h

-- ---- every outcome

visits_of : Report → ℕ
visits_of (accepted rows lines visits) = visits
visits_of (rejected code at visits) = visits

reported_counted : (Q : ℕ → Type 0) (result : Result BlockResult) → Counted Q (λ r. r.context.visits) result → Q (visits_of (reported result))
unfolding reported visits_of
reported_counted Q (ok root) h = h
reported_counted Q (refused code at visits) h = h

outcome_visits : (lent lent_index : ℕ) (r : Report) → (outcome_of lent lent_index r).visits ≡ visits_of r
unfolding outcome_of placed refusal visits_of
outcome_visits lent lent_index (accepted rows lines visits) = by (leb (length rows) (lent / 6)) (leb (length lines) (lent_index / 3)) refl refl
  where
    by : (fits index_fits : Bool) → leb (length rows) (lent / 6) ≡ fits → leb (length lines) (lent_index / 3) ≡ index_fits → (placed lent lent_index rows lines visits).visits ≡ visits
    by true true e f = rw (e, f, placed)
    by true false e f = rw (e, f, placed)
    by false index_fits e f = rw (e, placed)
outcome_visits lent lent_index (rejected code at visits) = refl

abbrev Most : ℕ → Type 0
Most visits = visits ≤ most_visits

-- "visits in the result, at most 8,192"
pub visits_most : (rule : Rule) (words : List ℕ) (lent lent_index : ℕ) → (built rule words lent lent_index).visits ≤ most_visits
unfolding built after_check refusal report build_tree WalkCounted start
visits_most rule words lent lent_index = at (checked words)
  where
    table : Table
    table = table_of words

    at : (verdict : Verdict) → (after_check rule lent lent_index verdict words).visits ≤ most_visits
    at (check.refused code place) = omega arith
    at check.accepted =
        omega (
          arith,
          outcome_visits lent lent_index (report rule table),
          reported_counted Most (build_tree rule table) (statements_counted Most (λ _ h _. h) table 128 (outermost rule) table.entry start (omega arith)),
        )
