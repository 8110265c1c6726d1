-- For the reader: the law beyond the papers is not empty. The corners that it adds, each as a table: a For with update and continue; a For whose init is its loop block,
-- or its update; a DoWhile; a do inside a for, continued and left from within; ends that are not reached, of an If and of a scope; a switch without default in a for; a case that goes on into
-- the next. Each has the conditions (by the test), is accepted and runs as it should (by computation), and the law holds of it. A switch in a loop shows that the law
-- with switches is not one of the first entry. `loop_edges`: each condition's smallest table on which the law fails, which does not pass the test.
-- Block n has one instruction, row n, so that the rows performed are the numbers of the blocks.
use mathlib.Core.Path.{◌≡◌, refl, sym, ap, ◌∙◌}
use Prim.Native.Nat.{ℕ}
use mathlib.Core.Bool.{false}
use mathlib.Core.List.{List, [], ◌∷◌}
use Rattle.table.specs.Words.{word, entry_word, block_count, instruction_count, case_count, place_count, identifier_count, blocks_begin, instructions_begin, cases_begin}
use Rattle.table.specs.Words.{places_begin, identifiers_begin, words_needed, block_word, instruction_word, case_word, place_word, identifier_word}
use Rattle.table.specs.Table.{unless_none, variant_of, terminal_of, block_of, operation_of, instruction_of, case_of, tabulate, table_of}
use Rattle.table.specs.Check.{fits, block, block_or_none, place, place_or_none, terminal_rules, block_rules, operand_rules, instruction_rules, case_rules}
use Rattle.table.specs.Check.{place_rules, identifier_rules, and_then, row_verdict, rows_verdict, words_verdict, counts_verdict, checked}
use Rattle.definition.specs.Result.{◌>>=◌, refuse_if}
use Rattle.definition.specs.Context.{no_flags, has, add, remove, start, is_scheduled, emit, with_visits, mark_scope_fallthrough, schedule_catch_handler, pushed}
use Rattle.definition.specs.Context.{schedule, unscheduled_by, popped, unschedule_top, unschedule, break_kind, break_target_from, get_break_target, continue_kind}
use Rattle.definition.specs.Context.{continue_target_from, get_continue_target}
use Rattle.definition.specs.Value.{begin_visit, instructions_of, wrap_with_sequence, final_value, final_place, stored_to_named, all_but_last, last}
use Rattle.definition.specs.Value.{extract_value_block_result, extract_or_refuse, test_block_ended, visit_test_block, visit_value_block_terminal, then_fallthrough}
use Rattle.definition.specs.Value.{branch_value, is_empty_goto, maybe_throw_value, visit_value_block_at, visit_value_block, appended, same_identifier, unless_same}
use Rattle.definition.specs.Value.{value_block_result_to_sequence}
use Rattle.definition.specs.Statement.{enter_block, unless_scheduled, unless_unreachable, schedule_if, schedule_switch, unschedule_if, mark_scope_fallthrough_if}
use Rattle.definition.specs.Statement.{break_to_scope, break_resolved, visit_break, continue_resolved, visit_continue, visit_goto, traverse_unscheduled}
use Rattle.definition.specs.Statement.{traverse_alternate, traverse_consequent, traverse_enclosed, loop_is_taken, traverse_loop, visit_update, cases_last_first}
use Rattle.definition.specs.Statement.{traverse_cases, unschedule_all, visit_value_statement, visit_terminal, instruction_statements, then_next, visit_block}
use Rattle.definition.specs.Statement.{traverse_block, build_tree}
use Rattle.definition.specs.Around.{Rule, rust, language, is_switch_inside, kind_by, break_kind_in, is_label, names_statement, names_loop, unnamed, break_unnamed, continue_unnamed}
use Rattle.definition.specs.Index.{in_list, lines, line_words}
use Rattle.definition.specs.Build.{reported, report, refusal, words_of, placed, outcome_of, after_check, built}
use Rattle.definition.specs.Run.{returned, threw, no_answer_left, stopped}
use Rattle.definition.specs.BlockRun.{move, by_answer, case_list, at_place, by_place, performing, block_run}
use Rattle.definition.specs.Completion.{loop_continues, breakable, labelled}
use Rattle.definition.specs.TreeRun.{completed, completing, prefix, then_on, then, choose, after_body, while_rounds, while_loop, for_loop, do_while_loop, loop, switch_ends, entry_at}
use Rattle.definition.specs.TreeRun.{choose_place, jump_completion, run_statement, reason_of, tree_run}
use Rattle.definition.specs.Tree.{Statements}
use Rattle.definition.specs.Plain.{with_switch}
use Rattle.definition.specs.PlainLoops.{PlainLoops, without_switch}
use Rattle.definition.specs.PlainTest.{is_plain_loops}
use Rattle.definition.specs.RunLaw.{RunLaw, Spoken, SwitchLaw}
use Rattle.definition.proofs.LoopTest.{is_plain_loops_lem}
use Rattle.definition.proofs.Example.{tree_of, Both, stop_alike, returns}
use Rattle.definition.proofs.Accepted.{Accepted, accepted_of}
use Rattle.definition.proofs.Steps.{true_false}
use Rattle.definition.proofs.TreeInBuffer.{tree_is_built}
use Rattle.definition.proofs.Law.{spoken_of, loops_law, loops_and_switches_law}
use Rattle.definition.specs.LoopExamples.{a_return, an_unreachable, a_break, a_continue, an_if, a_branch, a_switch, a_do_while, a_for, table_with, table}
use Rattle.definition.specs.LoopExamples.{updates, counts, again, does, once, nested, ends, scoped, switches, falls}

-- ---- they have the conditions

pub all_plain : PlainLoops without_switch (table_of updates)
    × PlainLoops without_switch (table_of counts)
    × PlainLoops without_switch (table_of again)
    × PlainLoops without_switch (table_of does)
    × PlainLoops without_switch (table_of once)
    × PlainLoops without_switch (table_of nested)
    × PlainLoops without_switch (table_of ends)
    × PlainLoops without_switch (table_of scoped)
    × PlainLoops with_switch (table_of switches)
    × PlainLoops with_switch (table_of falls)
unfolding word entry_word block_count instruction_count case_count place_count identifier_count blocks_begin instructions_begin cases_begin places_begin identifiers_begin
    block_word instruction_word case_word place_word identifier_word unless_none variant_of terminal_of block_of operation_of instruction_of case_of tabulate table_of case_list
    cases_last_first stored_to_named same_identifier
all_plain = (
  is_plain_loops_lem (table_of updates) without_switch refl,
  is_plain_loops_lem (table_of counts) without_switch refl,
  is_plain_loops_lem (table_of again) without_switch refl,
  is_plain_loops_lem (table_of does) without_switch refl,
  is_plain_loops_lem (table_of once) without_switch refl,
  is_plain_loops_lem (table_of nested) without_switch refl,
  is_plain_loops_lem (table_of ends) without_switch refl,
  is_plain_loops_lem (table_of scoped) without_switch refl,
  is_plain_loops_lem (table_of switches) with_switch refl,
  is_plain_loops_lem (table_of falls) with_switch refl,
)

-- ---- the runs, by computation: answers, rows performed, and why they stop

abbrev LoopRuns : Rule → Type 0
LoopRuns rule =
    Both rule updates [] (stopped (0 ∷ 1 ∷ 2 ∷ []) [] no_answer_left)
    × Both rule updates (0 ∷ []) (stopped (0 ∷ 1 ∷ 2 ∷ 5 ∷ []) [] (returned 0 6))
    × Both rule updates (1 ∷ 1 ∷ 0 ∷ []) (stopped (0 ∷ 1 ∷ 2 ∷ 4 ∷ 6 ∷ 3 ∷ 2 ∷ 5 ∷ []) [] (returned 0 6))
    × Both rule updates (1 ∷ 0 ∷ 1 ∷ 1 ∷ []) (stopped (0 ∷ 1 ∷ 2 ∷ 4 ∷ 7 ∷ 3 ∷ 2 ∷ 4 ∷ 6 ∷ 3 ∷ 2 ∷ []) [] no_answer_left)
    × Both rule counts (1 ∷ 1 ∷ 0 ∷ []) (stopped (0 ∷ 1 ∷ 2 ∷ 1 ∷ 2 ∷ 1 ∷ 2 ∷ 3 ∷ []) [] (returned 0 4))
    × Both rule again (1 ∷ 0 ∷ []) (stopped (0 ∷ 1 ∷ 2 ∷ 3 ∷ 1 ∷ 2 ∷ 4 ∷ []) [] (returned 0 5))
    × Both rule does [] (stopped (0 ∷ 1 ∷ []) [] no_answer_left)
    × Both rule does (1 ∷ []) (stopped (0 ∷ 1 ∷ 4 ∷ 2 ∷ []) [] no_answer_left)
    × Both rule does (0 ∷ 1 ∷ 1 ∷ 0 ∷ []) (stopped (0 ∷ 1 ∷ 5 ∷ 2 ∷ 1 ∷ 4 ∷ 2 ∷ 3 ∷ []) [] (threw 0 4))
    × Both rule once [] (stopped (0 ∷ 1 ∷ 3 ∷ []) [] (returned 0 4))
    × Both rule nested (1 ∷ 1 ∷ 0 ∷ []) (stopped (0 ∷ 1 ∷ 2 ∷ 4 ∷ 6 ∷ 9 ∷ 3 ∷ 2 ∷ 5 ∷ []) [] (returned 0 6))
    × Both rule nested (1 ∷ 0 ∷ 1 ∷ []) (stopped (0 ∷ 1 ∷ 2 ∷ 4 ∷ 6 ∷ 10 ∷ 11 ∷ 5 ∷ []) [] (returned 0 6))
    × Both rule ends (1 ∷ 0 ∷ 0 ∷ []) (stopped (0 ∷ 1 ∷ 2 ∷ 5 ∷ 1 ∷ 3 ∷ []) [] (returned 0 4))
    × Both rule ends (1 ∷ 1 ∷ []) (stopped (0 ∷ 1 ∷ 2 ∷ 4 ∷ []) [] (returned 0 5))
    × Both rule scoped (1 ∷ []) (stopped (0 ∷ 1 ∷ 3 ∷ []) [] (returned 0 4))
    × Both rule scoped (0 ∷ []) (stopped (0 ∷ 1 ∷ 4 ∷ []) [] (threw 0 5))

-- In the language entry; in the first entry the tree's break of case 7 acts on the switch
abbrev SwitchRuns : Rule → Type 0
SwitchRuns language =
    Both language switches (1 ∷ 0 ∷ 0 ∷ []) (stopped (0 ∷ 1 ∷ 2 ∷ 4 ∷ 6 ∷ 3 ∷ 2 ∷ 5 ∷ []) [] (returned 0 6))
    × Both language switches (1 ∷ 1 ∷ []) (stopped (0 ∷ 1 ∷ 2 ∷ 4 ∷ 7 ∷ 5 ∷ []) [] (returned 0 6))
    × Both language switches (1 ∷ 2 ∷ 0 ∷ []) (stopped (0 ∷ 1 ∷ 2 ∷ 4 ∷ 8 ∷ 3 ∷ 2 ∷ 5 ∷ []) [] (returned 0 6))
    × Both language falls (0 ∷ []) (stopped (0 ∷ 1 ∷ 2 ∷ 4 ∷ []) [] (returned 0 5))
    × Both language falls (1 ∷ []) (stopped (0 ∷ 2 ∷ 4 ∷ []) [] (returned 0 5))
    × Both language falls (2 ∷ []) (stopped (0 ∷ 3 ∷ 4 ∷ []) [] (returned 0 5))
SwitchRuns rust =
    (block_run (table_of switches) 40 (table_of switches).entry (1 ∷ 1 ∷ []) ≡ stopped (0 ∷ 1 ∷ 2 ∷ 4 ∷ 7 ∷ 5 ∷ []) [] (returned 0 6))
    × (tree_run (tree_of (build_tree rust (table_of switches))) (1 ∷ 1 ∷ []) ≡ stopped (0 ∷ 1 ∷ 2 ∷ 4 ∷ 7 ∷ 8 ∷ 3 ∷ 2 ∷ []) [] no_answer_left)

abbrev AllAccepted : Rule → Type 0
AllAccepted rule =
    ((built rule updates 600 300).code ≡ 0)
    × ((built rule counts 600 300).code ≡ 0)
    × ((built rule again 600 300).code ≡ 0)
    × ((built rule does 600 300).code ≡ 0)
    × ((built rule once 600 300).code ≡ 0)
    × ((built rule nested 600 300).code ≡ 0)
    × ((built rule ends 600 300).code ≡ 0)
    × ((built rule scoped 600 300).code ≡ 0)
    × ((built rule switches 600 300).code ≡ 0)
    × ((built rule falls 600 300).code ≡ 0)

computed : (rule : Rule) → LoopRuns rule × SwitchRuns rule × AllAccepted rule
unfolding word entry_word block_count instruction_count case_count place_count identifier_count blocks_begin instructions_begin cases_begin places_begin identifiers_begin
    words_needed block_word instruction_word case_word place_word identifier_word unless_none variant_of terminal_of block_of operation_of instruction_of case_of tabulate
    table_of fits block block_or_none place place_or_none terminal_rules block_rules operand_rules instruction_rules case_rules place_rules identifier_rules and_then
    row_verdict rows_verdict words_verdict counts_verdict checked ◌>>=◌ refuse_if no_flags has add remove start is_scheduled emit with_visits mark_scope_fallthrough
    schedule_catch_handler pushed schedule unscheduled_by popped unschedule_top unschedule break_kind break_target_from get_break_target continue_kind continue_target_from
    get_continue_target begin_visit instructions_of wrap_with_sequence final_value final_place stored_to_named all_but_last last extract_value_block_result extract_or_refuse
    test_block_ended visit_test_block visit_value_block_terminal then_fallthrough branch_value is_empty_goto maybe_throw_value visit_value_block_at visit_value_block appended
    same_identifier unless_same value_block_result_to_sequence enter_block unless_scheduled unless_unreachable schedule_if schedule_switch unschedule_if
    mark_scope_fallthrough_if is_switch_inside kind_by break_kind_in is_label names_statement names_loop unnamed break_unnamed continue_unnamed break_to_scope break_resolved
    visit_break continue_resolved visit_continue visit_goto traverse_unscheduled traverse_alternate
    traverse_consequent traverse_enclosed loop_is_taken traverse_loop visit_update cases_last_first traverse_cases unschedule_all visit_value_statement visit_terminal
    instruction_statements then_next visit_block traverse_block build_tree reported report refusal words_of in_list lines line_words placed outcome_of after_check built performing move by_answer
    case_list at_place by_place block_run loop_continues breakable labelled completed completing prefix then_on then choose after_body while_rounds while_loop for_loop do_while_loop loop
    switch_ends entry_at choose_place jump_completion run_statement reason_of tree_run
computed rust = (
  (
    (refl, refl),
    (refl, refl),
    (refl, refl),
    (refl, refl),
    (refl, refl),
    (refl, refl),
    (refl, refl),
    (refl, refl),
    (refl, refl),
    (refl, refl),
    (refl, refl),
    (refl, refl),
    (refl, refl),
    (refl, refl),
    (refl, refl),
    (refl, refl),
  ),
  (refl, refl),
  (refl, refl, refl, refl, refl, refl, refl, refl, refl, refl),
)
computed language = (
  (
    (refl, refl),
    (refl, refl),
    (refl, refl),
    (refl, refl),
    (refl, refl),
    (refl, refl),
    (refl, refl),
    (refl, refl),
    (refl, refl),
    (refl, refl),
    (refl, refl),
    (refl, refl),
    (refl, refl),
    (refl, refl),
    (refl, refl),
    (refl, refl),
  ),
  ((refl, refl), (refl, refl), (refl, refl), (refl, refl), (refl, refl), (refl, refl)),
  (refl, refl, refl, refl, refl, refl, refl, refl, refl, refl),
)

-- ---- the law

pub updates_law : (rule : Rule) → RunLaw updates (built rule updates 600 300)
updates_law rule = loops_law rule updates 600 300 (computed rule).2.0 all_plain.0

pub counts_law : (rule : Rule) → RunLaw counts (built rule counts 600 300)
counts_law rule = loops_law rule counts 600 300 (computed rule).2.1 all_plain.1

pub again_law : (rule : Rule) → RunLaw again (built rule again 600 300)
again_law rule = loops_law rule again 600 300 (computed rule).2.2 all_plain.2

pub does_law : (rule : Rule) → RunLaw does (built rule does 600 300)
does_law rule = loops_law rule does 600 300 (computed rule).2.3 all_plain.3

pub once_law : (rule : Rule) → RunLaw once (built rule once 600 300)
once_law rule = loops_law rule once 600 300 (computed rule).2.4 all_plain.4

pub nested_law : (rule : Rule) → RunLaw nested (built rule nested 600 300)
nested_law rule = loops_law rule nested 600 300 (computed rule).2.5 all_plain.5

pub ends_law : (rule : Rule) → RunLaw ends (built rule ends 600 300)
ends_law rule = loops_law rule ends 600 300 (computed rule).2.6 all_plain.6

pub scoped_law : (rule : Rule) → RunLaw scoped (built rule scoped 600 300)
scoped_law rule = loops_law rule scoped 600 300 (computed rule).2.7 all_plain.7

pub switches_law : SwitchLaw switches (built language switches 600 300)
switches_law = loops_and_switches_law switches 600 300 (computed language).2.8 all_plain.8

pub falls_law : SwitchLaw falls (built language falls 600 300)
falls_law = loops_and_switches_law falls 600 300 (computed language).2.9 all_plain.9

-- ---- the first entry

switches_spoken : Spoken (table_of switches) (1 ∷ 1 ∷ [])
switches_spoken = spoken_of (table_of switches) (1 ∷ 1 ∷ []) 40 (0 ∷ 1 ∷ 2 ∷ 4 ∷ 7 ∷ 5 ∷ []) [] (returned 0 6) (computed rust).1.0 refl

switches_tree : (law : SwitchLaw switches (built rust switches 600 300)) → law.one.tree ≡ tree_of (build_tree rust (table_of switches))
switches_tree law =
    let a : Accepted rust switches 600 300 = accepted_of rust switches 600 300 (computed rust).2.8 in
    tree_is_built rust switches 600 300 a law.one ∙ sym (ap tree_of a.builds)

-- the table has the conditions and is accepted, and the law does not hold of what the first entry gave
pub switches_not_for_rust : SwitchLaw switches (built rust switches 600 300) → ⊥
switches_not_for_rust law =
    true_false (ap returns (stop_alike (table_of switches) law.one.tree (1 ∷ 1 ∷ []) 40 (stopped (0 ∷ 1 ∷ 2 ∷ 4 ∷ 7 ∷ 5 ∷ []) [] (returned 0 6))
    (stopped (0 ∷ 1 ∷ 2 ∷ 4 ∷ 7 ∷ 8 ∷ 3 ∷ 2 ∷ []) [] no_answer_left) (0 ∷ 1 ∷ 2 ∷ 4 ∷ 7 ∷ 5 ∷ []) [] (returned 0 6) refl
    (law.agree (1 ∷ 1 ∷ []) switches_spoken) (computed rust).1.0
    (ap (λ (s : Statements). tree_run s (1 ∷ 1 ∷ [])) (switches_tree law) ∙ (computed rust).1.1)))

-- ---- the conditions' edges: the smallest table on which the law fails without each, in the order of PlainLoops' sentences. None passes the test

abbrev Edge : List ℕ → Type 0
Edge words = is_plain_loops (table_of words) with_switch ≡ false

loop_edges :
    -- a loop's test is no Branch
    Edge (table (a_do_while 1 1 2 ∷ a_continue 1 ∷ a_return ∷ []) [])
    -- an init that does not go to the test
    × Edge (table (a_for 1 2 65535 1 3 ∷ a_break 3 ∷ a_branch 1 3 ∷ a_return ∷ []) [])
    -- an update that does not go to the test
    × Edge (table (a_for 1 2 3 3 4 ∷ a_break 2 ∷ a_branch 3 4 ∷ a_continue 3 ∷ a_return ∷ []) [])
    -- a test that ends in a store to an unnamed identifier
    × Edge (table_with 2 0 2 0 2 (a_do_while 1 2 3 ∷ a_continue 2 ∷ a_branch 1 3 ∷ a_return ∷ []) [])
    -- an init that does
    × Edge (table_with 2 0 2 0 1 (a_for 1 2 65535 1 3 ∷ a_continue 2 ∷ a_branch 1 3 ∷ a_return ∷ []) [])
    -- an update that does
    × Edge (table_with 2 0 2 0 3 (a_for 1 2 3 4 5 ∷ a_break 2 ∷ a_branch 4 5 ∷ a_break 2 ∷ a_continue 3 ∷ a_return ∷ []) [])
    -- an init that ends in a load of its own identifier
    × Edge (table_with 1 0 1 0 1 (a_for 1 2 65535 1 3 ∷ a_continue 2 ∷ a_branch 1 3 ∷ a_return ∷ []) [])
    -- a fallthrough of two blocks
    × Edge (table (a_do_while 1 2 3 ∷ an_if 4 3 3 ∷ a_branch 1 3 ∷ a_return ∷ a_return ∷ []) [])
    -- a fallthrough that is a loop block
    × Edge (table (a_do_while 1 2 3 ∷ an_if 4 1 1 ∷ a_branch 1 3 ∷ a_return ∷ a_return ∷ []) [])
    -- a fallthrough that is an update
    × Edge (table (a_for 1 2 1 3 4 ∷ a_break 2 ∷ a_branch 3 4 ∷ an_if 5 6 6 ∷ a_return ∷ an_if 7 1 1 ∷ a_return ∷ a_return ∷ []) [])
    -- a case, not the last, that is the fallthrough
    × Edge (table (a_switch 2 1 ∷ a_return ∷ a_return ∷ []) (1 ∷ 2 ∷ []))
    -- an Unreachable entry
    × Edge (table (an_unreachable ∷ []) [])
    -- an Unreachable block that a Goto names
    × Edge (table ((20 ∷ 1 ∷ 2 ∷ 5 ∷ 0 ∷ 0 ∷ []) ∷ a_break 2 ∷ an_unreachable ∷ []) [])
unfolding word entry_word block_count instruction_count case_count place_count identifier_count blocks_begin instructions_begin cases_begin places_begin identifiers_begin
    block_word instruction_word case_word place_word identifier_word unless_none variant_of terminal_of block_of operation_of instruction_of case_of tabulate table_of case_list
    cases_last_first stored_to_named same_identifier
loop_edges = (refl, refl, refl, refl, refl, refl, refl, refl, refl, refl, refl, refl, refl)
