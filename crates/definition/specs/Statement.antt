-- The statement walk: the Rust's visit_block, traverse_block, visit_break and visit_continue, and the build.
use Rattle.std.specs.Prelude.{ℕ, zero, suc, List, [], ◌∷◌, reverse, Bool, true, false, not, ◌||◌, take, drop, eqb}
use Rattle.std.proofs.Math.Option.{Option, none, some}
use Rattle.table.specs.declared.columns.Span.{Span}
use Rattle.table.specs.Table.{Table, Block, Case, Terminal, Variant, absent, unreachable, throw, return, goto, if, branch, switch, do_while, while, for, for_of, for_in}
use Rattle.table.specs.Table.{logical, ternary, optional, sequence, maybe_throw, try, scope, Break, Continue, Try, is_absent, is_unreachable, block_at, terminal_at}
use Rattle.table.specs.Table.{instruction_at, instruction_rows_at, label}
use Rattle.definition.specs.Context.{has, target_if, target_switch, target_case, target_loop, Context, start, is_scheduled, emit, with_visits, mark_scope_fallthrough}
use Rattle.definition.specs.Context.{schedule_catch_handler, schedule, unschedule, Resolution, get_break_target, get_continue_target}
use Rattle.definition.specs.Around.{Rule, Around, a_loop, a_switch, another, outermost, within, break_kind_in, break_unnamed, continue_unnamed}
use Rattle.definition.specs.Result.{Result, ok, refused, ◌>>=◌, refuse_if}
use Rattle.definition.specs.Tree.{Kind, implicit, labeled, unlabeled, Value, PLAIN, Statement, INSTR, IF, SWITCH, DOWHILE, WHILE, FOR, FOROF, FORIN, LABEL, TRY}
use Rattle.definition.specs.Tree.{SCOPE, RETURN, THROW, BREAK, CONTINUE, Statements, done, ◌▸◌, Cases, no_cases, CASE}
use Rattle.definition.specs.Value.{most_depth, most_visits, begin_visit, VisitValueBlock, visit_value_block_terminal, visit_value_block, value_block_result_to_sequence}

-- a block's statements, and the state that they leave
pub record BlockResult : Type 0 where
  pub statements : Statements
  pub context : Context

-- what a terminal gives: its statement, if any, and the block to go on with at the same depth, if any
pub record TerminalResult : Type 0 where
  pub statement : Option Statement
  pub next : Option ℕ
  pub context : Context

-- the statement walk one level deeper, where it is known what is being built around it
abbrev pub TraverseBlock : Type 0
TraverseBlock = (block : ℕ) → Context → Result BlockResult

abbrev pub TraverseInside : Type 0
TraverseInside = (around : Around) → TraverseBlock

-- a visit begins; "11 already emitted (named)"
unfoldable pub enter_block : Table → (block : ℕ) → Context → Result Context
enter_block t block cx =
    begin_visit t block cx.visits >>= λ begun.
    refuse_if (has cx.emitted block) 11 block begun >>= λ _.
    ok (emit block (with_visits begun cx))

-- ---- fallthroughs

-- a fallthrough is taken, and is the statement's label, unless it is scheduled
unfoldable pub unless_scheduled : Context → (fallthrough : ℕ) → Option ℕ
unless_scheduled cx fallthrough = elim (is_scheduled cx fallthrough) [ true ↦ none | false ↦ some fallthrough ]

-- "Only If, Switch, While, Label and Try ask `reachable` of their fallthrough, and ask it first. A missing block found there is refused 10."
unfoldable pub unless_unreachable : Table → Context → (fallthrough : ℕ) → Result (Option ℕ)
unless_unreachable t cx fallthrough =
    refuse_if (is_absent (terminal_at t fallthrough)) 10 fallthrough cx.visits >>= λ _.
    ok (elim (is_unreachable (terminal_at t fallthrough)) [ true ↦ none | false ↦ unless_scheduled cx fallthrough ])

-- "A loop is always on the control stack, even with no label; others only if their fallthrough is taken."
unfoldable pub schedule_if : Option ℕ → Context → Result Context
schedule_if none cx = ok cx
schedule_if (some fallthrough) cx = schedule (target_if fallthrough) cx

unfoldable pub schedule_switch : Option ℕ → Context → Result Context
schedule_switch none cx = ok cx
schedule_switch (some fallthrough) cx = schedule (target_switch fallthrough) cx

unfoldable pub unschedule_if : Option ℕ → (id : ℕ) → Context → Result Context
unschedule_if none id cx = ok cx
unschedule_if (some fallthrough) id cx = unschedule id cx

unfoldable pub mark_scope_fallthrough_if : Option ℕ → Context → Context
mark_scope_fallthrough_if none cx = cx
mark_scope_fallthrough_if (some fallthrough) cx = mark_scope_fallthrough fallthrough cx

-- ---- jumps

-- "A break to a scope fallthrough gives no row if Implicit, else 22."
unfoldable pub break_to_scope : Kind → (at visits : ℕ) → Result (Option Statement)
break_to_scope implicit at visits = ok none
break_to_scope labeled at visits = refused 22 at visits
break_to_scope unlabeled at visits = refused 22 at visits

-- a break to `block`, by the terminal with this id of the block `at`. "20 no break target (named)". M-102: "29 .. at the jump's block, after 20, 21 and 22"
unfoldable pub break_resolved : Around → (at block id : ℕ) → Context → Option Resolution → Result (Option Statement)
break_resolved around at block id cx none = refused 20 block cx.visits
break_resolved around at block id cx (some found) =
    elim (has cx.scope_fallthroughs found.target) [
      | true ↦ break_to_scope found.kind at cx.visits
      | false ↦
          refuse_if (break_unnamed around found) 29 at cx.visits >>= λ _.
          ok (some (BREAK found.target id (break_kind_in around found.kind) found.loops))
    ]

unfoldable pub visit_break : Around → (at block id : ℕ) → Context → Result (Option Statement)
visit_break around at block id cx = break_resolved around at block id cx (get_break_target cx block)

-- "21 no continue target (named)"
unfoldable pub continue_resolved : Around → (at block id : ℕ) → Context → Option Resolution → Result Statement
continue_resolved around at block id cx none = refused 21 block cx.visits
continue_resolved around at block id cx (some found) =
    refuse_if (continue_unnamed around found) 29 at cx.visits >>= λ _.
    ok (CONTINUE found.target id found.kind found.loops)

unfoldable pub visit_continue : Around → (at block id : ℕ) → Context → Result Statement
visit_continue around at block id cx = continue_resolved around at block id cx (get_continue_target cx block)

-- "Goto Try gives no row."
unfoldable pub visit_goto : Around → Variant → (at block id : ℕ) → Context → Result TerminalResult
visit_goto around Break at block id cx = visit_break around at block id cx >>= λ statement. ok (record { statement = statement; next = none; context = cx })
visit_goto around Continue at block id cx = visit_continue around at block id cx >>= λ statement. ok (record { statement = some statement; next = none; context = cx })
visit_goto around Try at block id cx = ok (record { statement = none; next = none; context = cx })

-- ---- nested blocks

-- a nested block that must not be scheduled
unfoldable pub traverse_unscheduled : TraverseBlock → (block code at : ℕ) → Context → Result BlockResult
traverse_unscheduled traverse block code at cx = refuse_if (is_scheduled cx block) code at cx.visits >>= λ _. traverse block cx

pub record AlternateResult : Type 0 where
  pub present : Bool
  pub statements : Statements
  pub context : Context

-- an alternate that is the fallthrough is none, whether or not the fallthrough is taken
unfoldable pub traverse_alternate : TraverseBlock → (alternate fallthrough : ℕ) → Context → Result AlternateResult
traverse_alternate traverse alternate fallthrough cx =
    elim (eqb alternate fallthrough) [
      | true ↦ ok (record { present = false; statements = done; context = cx })
      | false ↦ traverse_unscheduled traverse alternate 13 alternate cx >>= λ body. ok (record { present = true; statements = body.statements; context = body.context })
    ]

abbrev pub followed_by : Option Statement → Statements → Statements
followed_by none more = more
followed_by (some statement) more = statement ▸ more

-- a Branch's consequent as a statement: a break where it is scheduled. (The Branch's own IF is around that break too, and has no label.)
unfoldable pub traverse_consequent : Around → TraverseBlock → (at consequent id : ℕ) → Context → Result BlockResult
traverse_consequent around traverse at consequent id cx =
    elim (is_scheduled cx consequent) [
      | true ↦ visit_break around at consequent id cx >>= λ statement. ok (record { statements = followed_by statement done; context = cx })
      | false ↦ traverse consequent cx
    ]

-- the body of a Label or a scope, whose statement `make` gives. Its entry, if its fallthrough is taken, has the next id of `before`; `inside` has that entry
unfoldable pub traverse_enclosed : TraverseBlock → (block code at : ℕ) → (taken : Option ℕ) → (before inside : Context) → (make : Statements → Statement) → Result TerminalResult
traverse_enclosed traverse block code at taken before inside make =
    traverse_unscheduled traverse block code at inside >>= λ body.
    unschedule_if taken before.next_id body.context >>= λ after.
    ok (record { statement = some (make body.statements); next = taken; context = after })

-- "16 loop scheduled or equal to its fallthrough", asked of the state before schedule_loop
unfoldable pub loop_is_taken : Context → (loop fallthrough : ℕ) → Bool
loop_is_taken cx loop fallthrough = is_scheduled cx loop || eqb loop fallthrough

-- a loop whose values are made, with this many visits begun: its body, and the statement that `make` gives. `id` is that of its entry
unfoldable pub traverse_loop : TraverseBlock → (at loop : ℕ) → (taken : Bool) → (visits id : ℕ) → Context → (fallthrough : Option ℕ) → (make : Statements → Statement) → Result TerminalResult
traverse_loop traverse at loop taken visits id cx fallthrough make =
    refuse_if taken 16 at visits >>= λ _.
    traverse loop (with_visits visits cx) >>= λ body.
    unschedule id body.context >>= λ after.
    ok (record { statement = some (make body.statements); next = fallthrough; context = after })

-- where a For continues: its update, or its test where it has none
abbrev pub continue_block_of : (update : Option ℕ) → (test : ℕ) → ℕ
continue_block_of none test = test
continue_block_of (some update) test = update

pub record OptionalValue : Type 0 where
  pub value : Option Value
  pub visits : ℕ

unfoldable pub visit_update : VisitValueBlock → Option ℕ → (span : Span) (visits : ℕ) → Result OptionalValue
visit_update visit none span visits = ok (record { value = none; visits = visits })
visit_update visit (some update) span visits = visit update none span visits >>= λ result. ok (record { value = some result.value; visits = result.visits })

-- ---- switch

-- the cases built, and the ids of what is scheduled, the last first
pub record CasesResult : Type 0 where
  pub cases : Cases
  pub ids : List ℕ
  pub context : Context

unfoldable pub cases_last_first : Table → (first number : ℕ) → List Case
cases_last_first t first number = reverse (take number (drop first t.cases))

-- "Switch cases are built last first, each scheduled after it is built. A scheduled case block is skipped if it is the fallthrough, else refused 14."
unfoldable pub traverse_cases : TraverseBlock → (at fallthrough : ℕ) → List Case → (ids : List ℕ) → Context → Result CasesResult
traverse_cases traverse at fallthrough [] ids cx = ok (record { cases = no_cases; ids = ids; context = cx })
traverse_cases traverse at fallthrough (case ∷ earlier) ids cx =
    elim (is_scheduled cx case.block) [
      | true ↦ refuse_if (not (eqb case.block fallthrough)) 14 at cx.visits >>= λ _. traverse_cases traverse at fallthrough earlier ids cx
      | false ↦
          traverse case.block cx >>= λ body.
          schedule (target_case case.block) body.context >>= λ after.
          traverse_cases traverse at fallthrough earlier (body.context.next_id ∷ ids) after >>= λ rest.
          ok (record { cases = CASE case.test body.statements rest.cases; ids = rest.ids; context = rest.context })
    ]

unfoldable pub unschedule_all : List ℕ → Context → Result Context
unschedule_all [] cx = ok cx
unschedule_all (id ∷ ids) cx = unschedule id cx >>= λ after. unschedule_all ids after

-- the id of a Switch's own entry, if it has one
abbrev pub schedule_ids : Option ℕ → (id : ℕ) → List ℕ
schedule_ids none id = []
schedule_ids (some fallthrough) id = id ∷ []

-- ---- terminals

-- a Logical, Ternary, Optional or Sequence as a statement: an INSTR with the terminal's own span
unfoldable pub visit_value_statement : Table → VisitValueBlock → Terminal → (at : ℕ) → Block → (fallthrough : ℕ) → Context → Result TerminalResult
visit_value_statement t visit terminal at block fallthrough cx =
    let taken : Option ℕ = unless_scheduled cx fallthrough in
    schedule_if taken cx >>= λ inside.
    visit_value_block_terminal t visit terminal block.id block.span inside.visits at >>= λ result.
    unschedule_if taken cx.next_id (with_visits result.visits inside) >>= λ after.
    ok (record { statement = some (INSTR result.id result.place block.span result.value); next = taken; context = after })

-- the terminal of the block `at`, which has been entered (so it is present, and 99 is never given). `visit` and `traverse` are the walks one
-- level deeper, inside of this statement; the label is the fallthrough taken
unfoldable pub visit_terminal : Table → VisitValueBlock → TraverseInside → Around → Terminal → (at : ℕ) → Block → Context → Result TerminalResult
visit_terminal t visit traverse around absent at block cx = refused 99 at cx.visits
visit_terminal t visit traverse around unreachable at block cx = ok (record { statement = none; next = none; context = cx })
visit_terminal t visit traverse around (throw value) at block cx = ok (record { statement = some (THROW value block.id); next = none; context = cx })
visit_terminal t visit traverse around (return value) at block cx = ok (record { statement = some (RETURN value block.id); next = none; context = cx })
visit_terminal t visit traverse around (goto target variant) at block cx = visit_goto around variant at target block.id cx
visit_terminal t visit traverse around (if test consequent alternate fallthrough) at block cx =
    unless_unreachable t cx fallthrough >>= λ label.
    schedule_if label cx >>= λ inside.
    traverse_unscheduled (traverse (within (another label) around)) consequent 12 consequent inside >>= λ first.
    traverse_alternate (traverse (within (another label) around)) alternate fallthrough first.context >>= λ second.
    unschedule_if label cx.next_id second.context >>= λ after.
    ok (record { statement = some (IF test block.id label first.statements second.present second.statements); next = label; context = after })
visit_terminal t visit traverse around (branch test consequent alternate) at block cx =
    traverse_consequent around (traverse (within (another none) around)) at consequent block.id cx >>= λ first.
    traverse_unscheduled (traverse (within (another none) around)) alternate 19 at first.context >>= λ second.
    ok (record { statement = some (IF test block.id none first.statements true second.statements); next = none; context = second.context })
visit_terminal t visit traverse around (switch test first number fallthrough) at block cx =
    unless_unreachable t cx fallthrough >>= λ label.
    schedule_switch label cx >>= λ inside.
    traverse_cases (traverse (within (a_switch label) around)) at fallthrough (cases_last_first t first number) (schedule_ids label cx.next_id) inside >>= λ built.
    unschedule_all built.ids built.context >>= λ after.
    ok (record { statement = some (SWITCH test block.id label built.cases); next = label; context = after })
visit_terminal t visit traverse around (do_while loop test fallthrough) at block cx =
    let label : Option ℕ = unless_scheduled cx fallthrough in
    schedule (target_loop fallthrough test loop) cx >>= λ inside.
    refuse_if (loop_is_taken cx loop fallthrough) 16 at inside.visits >>= λ _.
    traverse (within (a_loop label) around) loop inside >>= λ body.
    visit test none block.span body.context.visits >>= λ tested.
    unschedule cx.next_id (with_visits tested.visits body.context) >>= λ after.
    ok (record { statement = some (DOWHILE block.id label body.statements tested.value); next = label; context = after })
visit_terminal t visit traverse around (while test loop fallthrough) at block cx =
    unless_unreachable t cx fallthrough >>= λ label.
    schedule (target_loop fallthrough test loop) cx >>= λ inside.
    visit test none block.span inside.visits >>= λ tested.
    traverse_loop (traverse (within (a_loop label) around)) at loop (loop_is_taken cx loop fallthrough) tested.visits cx.next_id inside label (WHILE block.id label tested.value)
visit_terminal t visit traverse around (for init test update loop fallthrough) at block cx =
    let label : Option ℕ = unless_scheduled cx fallthrough in
    schedule (target_loop fallthrough (continue_block_of update test) loop) cx >>= λ inside.
    visit init none block.span inside.visits >>= λ first.
    visit test none block.span first.visits >>= λ tested.
    visit_update visit update block.span tested.visits >>= λ updated.
    traverse_loop (traverse (within (a_loop label) around)) at loop (loop_is_taken cx loop fallthrough) updated.visits cx.next_id inside label
    (FOR block.id label (value_block_result_to_sequence t first block.span) tested.value updated.value)
visit_terminal t visit traverse around (for_of init test loop fallthrough) at block cx =
    let label : Option ℕ = unless_scheduled cx fallthrough in
    schedule (target_loop fallthrough init loop) cx >>= λ inside.
    visit init none block.span inside.visits >>= λ first.
    visit test none block.span first.visits >>= λ tested.
    traverse_loop (traverse (within (a_loop label) around)) at loop (loop_is_taken cx loop fallthrough) tested.visits cx.next_id inside label
    (FOROF block.id label block.span (value_block_result_to_sequence t first block.span) (value_block_result_to_sequence t tested block.span))
visit_terminal t visit traverse around (for_in init loop fallthrough) at block cx =
    let label : Option ℕ = unless_scheduled cx fallthrough in
    schedule (target_loop fallthrough init loop) cx >>= λ inside.
    visit init none block.span inside.visits >>= λ first.
    traverse_loop (traverse (within (a_loop label) around)) at loop (loop_is_taken cx loop fallthrough) first.visits cx.next_id inside label
    (FORIN block.id label block.span (value_block_result_to_sequence t first block.span))
visit_terminal t visit traverse around (logical operator test fallthrough) at block cx = visit_value_statement t visit (logical operator test fallthrough) at block fallthrough cx
visit_terminal t visit traverse around (ternary test fallthrough) at block cx = visit_value_statement t visit (ternary test fallthrough) at block fallthrough cx
visit_terminal t visit traverse around (optional flag test fallthrough) at block cx = visit_value_statement t visit (optional flag test fallthrough) at block fallthrough cx
visit_terminal t visit traverse around (label body fallthrough) at block cx =
    unless_unreachable t cx fallthrough >>= λ taken.
    schedule_if taken cx >>= λ inside.
    traverse_enclosed (traverse (within (another taken) around)) body 17 at taken cx inside (LABEL block.id taken)
visit_terminal t visit traverse around (sequence body fallthrough) at block cx = visit_value_statement t visit (sequence body fallthrough) at block fallthrough cx
visit_terminal t visit traverse around (maybe_throw continuation) at block cx = ok (record { statement = none; next = unless_scheduled cx continuation; context = cx })
visit_terminal t visit traverse around (try body handler fallthrough binding) at block cx =
    unless_unreachable t cx fallthrough >>= λ label.
    schedule_if label cx >>= λ inside.
    traverse (within (another label) around) body (schedule_catch_handler handler inside) >>= λ first.
    traverse (within (another label) around) handler first.context >>= λ second.
    unschedule_if label cx.next_id second.context >>= λ after.
    ok (record { statement = some (TRY block.id label binding first.statements second.statements); next = label; context = after })
visit_terminal t visit traverse around (scope pruned body fallthrough number) at block cx =
    let taken : Option ℕ = unless_scheduled cx fallthrough in
    schedule_if taken cx >>= λ inside.
    traverse_enclosed (traverse (within (another none) around)) body 18 at taken cx (mark_scope_fallthrough_if taken inside) (SCOPE pruned number)

-- ---- blocks

-- the statements of some instruction rows, and then more
unfoldable pub instruction_statements : Table → List ℕ → Statements → Statements
instruction_statements t [] more = more
instruction_statements t (row ∷ rows) more = INSTR (instruction_at t row).id (instruction_at t row).lvalue (instruction_at t row).span (PLAIN row) ▸ instruction_statements t rows more

-- the block's instructions, its terminal's statement, and then the statements of the block to go on with
unfoldable pub then_next : Table → (at : ℕ) → TraverseBlock → Option Statement → Option ℕ → Context → Result BlockResult
then_next t at again statement none cx = ok (record { statements = instruction_statements t (instruction_rows_at t at) (followed_by statement done); context = cx })
then_next t at again statement (some next) cx =
    again next cx >>= λ rest.
    ok (record { statements = instruction_statements t (instruction_rows_at t at) (followed_by statement rest.statements); context = rest.context })

-- visit_block: a block and then the fallthroughs and continuations at the same depth, with a bound on the blocks. Each is a visit, so that the
-- bound is reached only where 31 is due
unfoldable pub visit_block : Table → VisitValueBlock → TraverseInside → Around → (blocks_left : ℕ) → TraverseBlock
visit_block t visit traverse around zero block cx = refused 31 block cx.visits
visit_block t visit traverse around (suc blocks_left) block cx =
    enter_block t block cx >>= λ entered.
    visit_terminal t visit traverse around (terminal_at t block) block (block_at t block) entered >>= λ result.
    then_next t block (visit_block t visit traverse around blocks_left) result.statement result.next result.context

-- traverse_block, with `depth_left` levels of depth left
unfoldable pub traverse_block : Table → (depth_left : ℕ) → TraverseInside
traverse_block t zero around block cx = refused 30 block cx.visits
traverse_block t (suc depth_left) around block cx = visit_block t (visit_value_block t depth_left) (traverse_block t depth_left) around (suc most_visits) block cx

unfoldable pub build_tree : Rule → Table → Result BlockResult
build_tree rule t = traverse_block t most_depth (outermost rule) t.entry start
