-- For the reader: demand 3 and M-113 are not empty. W of paper 01 with instructions, and two loops of which the inner continues the outer, are plain (by the
-- test), are accepted, and run as they should (by computation); and the law at both. The same of a switch in a loop, in the language entry; for the first
-- entry it shows that M-113's law does not hold there.
use mathlib.Core.Path.{◌≡◌, refl, sym, ap, ◌∙◌}
use Prim.Native.Nat.{ℕ, ◌+◌}
use native.Mathlib.Omega.{arith}
use mathlib.Core.Bool.{Bool, true, false}
use mathlib.Core.List.{List, [], ◌∷◌, ◌++◌}
use Rattle.table.specs.Words.{word, entry_word, block_count, instruction_count, case_count, place_count, identifier_count, blocks_begin, instructions_begin, cases_begin}
use Rattle.table.specs.Words.{places_begin, identifiers_begin, words_needed, block_word, instruction_word, case_word, place_word, identifier_word}
use Rattle.table.specs.Table.{unless_none, variant_of, terminal_of, block_of, operation_of, instruction_of, case_of, tabulate, Table, table_of}
use Rattle.table.specs.Check.{fits, block, block_or_none, place, place_or_none, terminal_rules, block_rules, operand_rules, instruction_rules, case_rules}
use Rattle.table.specs.Check.{place_rules, identifier_rules, and_then, row_verdict, rows_verdict, words_verdict, counts_verdict, checked}
use Rattle.definition.specs.Result.{◌>>=◌, refuse_if}
use Rattle.definition.specs.Context.{no_flags, has, add, remove, start, is_scheduled, emit, with_visits, mark_scope_fallthrough, schedule_catch_handler, pushed}
use Rattle.definition.specs.Context.{schedule, unscheduled_by, popped, unschedule_top, unschedule, break_kind, break_target_from, get_break_target, continue_kind}
use Rattle.definition.specs.Context.{continue_target_from, get_continue_target}
use Rattle.definition.specs.Value.{begin_visit, instructions_of, wrap_with_sequence, final_value, final_place, stored_to_named, all_but_last, last}
use Rattle.definition.specs.Value.{extract_value_block_result, extract_or_refuse, test_block_ended, visit_test_block, visit_value_block_terminal, then_fallthrough}
use Rattle.definition.specs.Value.{branch_value, is_empty_goto, maybe_throw_value, visit_value_block_at, visit_value_block, appended, same_identifier, unless_same}
use Rattle.definition.specs.Value.{value_block_result_to_sequence}
use Rattle.definition.specs.Statement.{enter_block, unless_scheduled, unless_unreachable, schedule_if, schedule_switch, unschedule_if, mark_scope_fallthrough_if}
use Rattle.definition.specs.Statement.{break_to_scope, break_resolved, visit_break, continue_resolved, visit_continue, visit_goto, traverse_unscheduled}
use Rattle.definition.specs.Statement.{traverse_alternate, traverse_consequent, traverse_enclosed, loop_is_taken, traverse_loop, visit_update, cases_last_first}
use Rattle.definition.specs.Statement.{traverse_cases, unschedule_all, visit_value_statement, visit_terminal, instruction_statements, then_next, visit_block}
use Rattle.definition.specs.Statement.{traverse_block, build_tree}
use Rattle.definition.specs.Around.{Rule, rust, language, is_switch_inside, kind_by, break_kind_in, is_label, names_statement, names_loop, unnamed, break_unnamed, continue_unnamed}
use Rattle.definition.specs.Index.{in_list, lines, line_words}
use Rattle.definition.specs.Build.{reported, report, refusal, words_of, placed, outcome_of, after_check, built}
use Rattle.definition.specs.Tree.{Statements, done}
use Rattle.definition.specs.Result.{Result, ok, refused}
use Rattle.definition.specs.Statement.{BlockResult}
use Rattle.definition.specs.Run.{Answers, Reason, returned, threw, no_answer_left, not_plain, no_target, end_of_tree, no_such_case, Run, unfinished, stopped}
use Rattle.definition.specs.BlockRun.{move, by_answer, case_list, at_place, by_place, performing, block_run}
use Rattle.definition.specs.Completion.{loop_continues, breakable, labelled}
use Rattle.definition.specs.TreeRun.{completed, completing, prefix, then_on, then, choose, after_body, while_rounds, while_loop, loop, switch_ends, entry_at}
use Rattle.definition.specs.TreeRun.{choose_place, jump_completion, run_statement, reason_of, tree_run}
use Rattle.definition.specs.Plain.{paper_01, with_switch, Plain}
use Rattle.definition.specs.RunLaw.{Agree, RunLaw, Spoken, SwitchLaw}
use Rattle.definition.specs.PlainTest.{is_plain}
use Rattle.definition.proofs.PlainTest.{is_plain_lem}
use Rattle.definition.proofs.Accepted.{Accepted, accepted_of}
use Rattle.definition.proofs.Steps.{true_false}
use Rattle.definition.proofs.TreeInBuffer.{tree_is_built}
use Rattle.definition.proofs.Law.{more_steps, spoken_of, run_law, switch_law}
use Rattle.definition.specs.Examples.{block_row, W, loops, picks}

-- ---- plain

all_plain : Plain paper_01 (table_of W) × Plain paper_01 (table_of loops) × Plain with_switch (table_of picks)
unfolding word entry_word block_count instruction_count case_count place_count identifier_count blocks_begin instructions_begin cases_begin places_begin identifiers_begin
    block_word instruction_word case_word place_word identifier_word unless_none variant_of terminal_of block_of operation_of instruction_of case_of tabulate table_of
    case_list
all_plain = (is_plain_lem (table_of W) paper_01 refl, is_plain_lem (table_of loops) paper_01 refl, is_plain_lem (table_of picks) with_switch refl)

-- ---- the edges of M-113's conditions

-- W with 2 Switch of the cases 5 and `second`, fallthrough `ft`; 4 Goto(1,Continue), 5 Goto(`leads`,Break), 6 Goto(4,Break); 7, which nothing reaches, ends in the
-- code `code` with the columns a to d; a third case row, 4, that no Switch names unless 7 does
abbrev edge : (second ft leads code a b c d : ℕ) → List ℕ
edge second ft leads code a b c d =
    0 ∷ 8 ∷ 0 ∷ 3 ∷ 1 ∷ 1
    ∷ (block_row 0 0 9 1 2 3 0 0 1
    ++ (block_row 0 0 6 0 2 3 0 0 2
    ++ (block_row 0 0 7 0 0 2 ft 0 3
    ++ (block_row 0 0 3 0 0 0 0 0 4
    ++ (block_row 0 0 4 1 1 0 0 0 5
    ++ (block_row 0 0 4 leads 0 0 0 0 6
    ++ (block_row 0 0 4 4 0 0 0 0 7
    ++ (block_row 0 0 code a b c d 0 8
    ++ (0 ∷ 5 ∷ 0 ∷ second ∷ 0 ∷ 4 ∷ 0 ∷ 1 ∷ [])))))))))

abbrev Edge : (second ft leads code a b c d : ℕ) → Bool → Type 0
Edge second ft leads code a b c d plain = is_plain (table_of (edge second ft leads code a b c d)) with_switch ≡ plain

-- plain with switches, and not as paper 01 has it; still so with a case that is the entry, or a second Switch, which nothing reaches, over the same case
within_edges : Edge 6 4 3 0 0 0 0 0 true × (is_plain (table_of (edge 6 4 3 0 0 0 0 0)) paper_01 ≡ false) × Edge 0 4 3 0 0 0 0 0 true × Edge 6 4 3 7 0 1 1 7 true
unfolding word entry_word block_count instruction_count case_count place_count identifier_count blocks_begin instructions_begin cases_begin places_begin identifiers_begin
    block_word instruction_word case_word place_word identifier_word unless_none variant_of terminal_of block_of operation_of instruction_of case_of tabulate table_of case_list
within_edges = (refl, refl, refl, refl)

-- one change each that spoils it: the second case is the first; the Switch's fallthrough; the loop's; its loop block; its test; a Goto to a case; one that nothing reaches;
-- the Switch's fallthrough is a test; an Unreachable that nothing reaches; a second Switch whose case is a fallthrough
beyond_edges :
    Edge 5 4 3 0 0 0 0 0 false × Edge 4 4 3 0 0 0 0 0 false × Edge 3 4 3 0 0 0 0 0 false × Edge 2 4 3 0 0 0 0 0 false × Edge 1 4 3 0 0 0 0 0 false
    × Edge 6 4 6 0 0 0 0 0 false × Edge 6 4 3 4 5 0 0 0 false × Edge 6 1 3 0 0 0 0 0 false × Edge 6 4 3 1 0 0 0 0 false × Edge 6 4 3 7 0 2 1 7 false
unfolding word entry_word block_count instruction_count case_count place_count identifier_count blocks_begin instructions_begin cases_begin places_begin identifiers_begin
    block_word instruction_word case_word place_word identifier_word unless_none variant_of terminal_of block_of operation_of instruction_of case_of tabulate table_of case_list
beyond_edges = (refl, refl, refl, refl, refl, refl, refl, refl, refl, refl)

-- ---- the runs, by computation

-- the tree of an accepted table
abbrev pub tree_of : Result BlockResult → Statements
tree_of (ok root) = root.statements
tree_of (refused code at visits) = done

-- over these answers, both runs
abbrev pub Both : Rule → (words : List ℕ) → Answers → Run → Type 0
Both rule words answers run = (block_run (table_of words) 40 (table_of words).entry answers ≡ run) × (tree_run (tree_of (build_tree rule (table_of words))) answers ≡ run)

abbrev WRuns : Rule → Type 0
WRuns rule =
    Both rule W (1 ∷ 7 ∷ 0 ∷ []) (stopped (0 ∷ 1 ∷ 2 ∷ 3 ∷ 1 ∷ 2 ∷ 3 ∷ 1 ∷ 2 ∷ 4 ∷ []) [] (returned 0 4))
    × Both rule W (0 ∷ 1 ∷ 1 ∷ []) (stopped (0 ∷ 1 ∷ 2 ∷ 4 ∷ []) (1 ∷ 1 ∷ []) (returned 0 4))
    × Both rule W (1 ∷ []) (stopped (0 ∷ 1 ∷ 2 ∷ 3 ∷ 1 ∷ 2 ∷ []) [] no_answer_left)

-- yes, yes, yes: the outer loop is continued from the inner; then its inner loop ends, and then the outer
abbrev LoopsRun : Rule → Type 0
LoopsRun rule = Both rule loops (1 ∷ 1 ∷ 1 ∷ 1 ∷ 0 ∷ 0 ∷ 5 ∷ []) (stopped (0 ∷ 1 ∷ 2 ∷ 4 ∷ 5 ∷ 1 ∷ 2 ∷ 4 ∷ 6 ∷ 1 ∷ 3 ∷ []) (5 ∷ []) (threw 0 9))

-- The language entry: the first case, then the third, then the second; the second at once; the third, and no answer for the switch's second round; and a list
-- that is not spoken of, as there is no fourth case. The first entry: over the second of these lists the blocks return, but in the tree the second case's break
-- acts on the switch, and the loop asks for an answer
abbrev PicksRun : Rule → Type 0
PicksRun language =
    Both language picks (1 ∷ 0 ∷ 1 ∷ 2 ∷ 1 ∷ 1 ∷ 5 ∷ []) (stopped (0 ∷ 1 ∷ 2 ∷ 4 ∷ 7 ∷ 1 ∷ 2 ∷ 6 ∷ 1 ∷ 2 ∷ 5 ∷ 3 ∷ []) (5 ∷ []) (returned 0 4))
    × Both language picks (1 ∷ 1 ∷ []) (stopped (0 ∷ 1 ∷ 2 ∷ 5 ∷ 3 ∷ []) [] (returned 0 4))
    × Both language picks (1 ∷ 2 ∷ 1 ∷ []) (stopped (0 ∷ 1 ∷ 2 ∷ 6 ∷ 1 ∷ 2 ∷ []) [] no_answer_left)
    × (block_run (table_of picks) 40 (table_of picks).entry (1 ∷ 3 ∷ []) ≡ stopped (0 ∷ 1 ∷ 2 ∷ []) (3 ∷ []) no_such_case)
PicksRun rust =
    (block_run (table_of picks) 40 (table_of picks).entry (1 ∷ 1 ∷ []) ≡ stopped (0 ∷ 1 ∷ 2 ∷ 5 ∷ 3 ∷ []) [] (returned 0 4))
    × (tree_run (tree_of (build_tree rust (table_of picks))) (1 ∷ 1 ∷ []) ≡ stopped (0 ∷ 1 ∷ 2 ∷ 5 ∷ 7 ∷ 1 ∷ []) [] no_answer_left)

abbrev AllAccepted : Rule → Type 0
AllAccepted rule = ((built rule W 600 300).code ≡ 0) × ((built rule loops 600 300).code ≡ 0) × ((built rule picks 900 300).code ≡ 0)

-- what computation shows: the runs, and that the tables are accepted
computed : (rule : Rule) → WRuns rule × LoopsRun rule × PicksRun rule × AllAccepted rule
unfolding word entry_word block_count instruction_count case_count place_count identifier_count blocks_begin instructions_begin cases_begin places_begin identifiers_begin
    words_needed block_word instruction_word case_word place_word identifier_word unless_none variant_of terminal_of block_of operation_of instruction_of case_of tabulate
    table_of fits block block_or_none place place_or_none terminal_rules block_rules operand_rules instruction_rules case_rules place_rules identifier_rules and_then
    row_verdict rows_verdict words_verdict counts_verdict checked ◌>>=◌ refuse_if no_flags has add remove start is_scheduled emit with_visits mark_scope_fallthrough
    schedule_catch_handler pushed schedule unscheduled_by popped unschedule_top unschedule break_kind break_target_from get_break_target continue_kind continue_target_from
    get_continue_target begin_visit instructions_of wrap_with_sequence final_value final_place stored_to_named all_but_last last extract_value_block_result extract_or_refuse
    test_block_ended visit_test_block visit_value_block_terminal then_fallthrough branch_value is_empty_goto maybe_throw_value visit_value_block_at visit_value_block appended
    same_identifier unless_same value_block_result_to_sequence enter_block unless_scheduled unless_unreachable schedule_if schedule_switch unschedule_if
    mark_scope_fallthrough_if is_switch_inside kind_by break_kind_in is_label names_statement names_loop unnamed break_unnamed continue_unnamed break_to_scope break_resolved
    visit_break continue_resolved visit_continue visit_goto traverse_unscheduled traverse_alternate
    traverse_consequent traverse_enclosed loop_is_taken traverse_loop visit_update cases_last_first traverse_cases unschedule_all visit_value_statement visit_terminal
    instruction_statements then_next visit_block traverse_block build_tree reported report refusal words_of in_list lines line_words placed outcome_of after_check built performing move by_answer
    case_list at_place by_place block_run loop_continues breakable labelled completed completing prefix then_on then choose after_body while_rounds while_loop loop
    switch_ends entry_at choose_place jump_completion run_statement reason_of tree_run
computed rust = (((refl, refl), (refl, refl), (refl, refl)), (refl, refl), (refl, refl), (refl, refl, refl))
computed language = (((refl, refl), (refl, refl), (refl, refl)), (refl, refl), ((refl, refl), (refl, refl), (refl, refl), refl), (refl, refl, refl))

-- ---- the law

pub W-law : (rule : Rule) → RunLaw W (built rule W 600 300)
W-law rule = run_law rule W 600 300 (computed rule).3.0 all_plain.0

pub loops_law : (rule : Rule) → RunLaw loops (built rule loops 600 300)
loops_law rule = run_law rule loops 600 300 (computed rule).3.1 all_plain.1

pub picks_law : SwitchLaw picks (built language picks 900 300)
picks_law = switch_law picks 900 300 (computed language).3.2 all_plain.2

-- the three lists are spoken of, so that the law says something of each
picks_spoken : Spoken (table_of picks) (1 ∷ 0 ∷ 1 ∷ 2 ∷ 1 ∷ 1 ∷ 5 ∷ []) × Spoken (table_of picks) (1 ∷ 1 ∷ []) × Spoken (table_of picks) (1 ∷ 2 ∷ 1 ∷ [])
picks_spoken = (
  spoken_of (table_of picks) (1 ∷ 0 ∷ 1 ∷ 2 ∷ 1 ∷ 1 ∷ 5 ∷ []) 40 (0 ∷ 1 ∷ 2 ∷ 4 ∷ 7 ∷ 1 ∷ 2 ∷ 6 ∷ 1 ∷ 2 ∷ 5 ∷ 3 ∷ []) (5 ∷ []) (returned 0 4) (computed language).2.0.0 refl,
  spoken_of (table_of picks) (1 ∷ 1 ∷ []) 40 (0 ∷ 1 ∷ 2 ∷ 5 ∷ 3 ∷ []) [] (returned 0 4) (computed language).2.1.0 refl,
  spoken_of (table_of picks) (1 ∷ 2 ∷ 1 ∷ []) 40 (0 ∷ 1 ∷ 2 ∷ 6 ∷ 1 ∷ 2 ∷ []) [] no_answer_left (computed language).2.2.0 refl,
)

picks_agree : Agree (table_of picks) picks_law.one.tree (1 ∷ 0 ∷ 1 ∷ 2 ∷ 1 ∷ 1 ∷ 5 ∷ [])
picks_agree = picks_law.agree (1 ∷ 0 ∷ 1 ∷ 2 ∷ 1 ∷ 1 ∷ 5 ∷ []) picks_spoken.0

-- ---- the first entry

-- runs that agree stop alike
pub stop_alike : (t : Table) (root : Statements) (answers : Answers) (n : ℕ) (run run' : Run) (performed : List ℕ) (left : Answers) (r : Reason) → run ≡ stopped performed left r
    → Agree t root answers → block_run t n t.entry answers ≡ run → tree_run root answers ≡ run' → run ≡ run'
stop_alike t root answers n run run' performed left r k a e e' =
    let q : n + a.steps ≡ a.steps + n = omega arith in
    k ∙ sym (more_steps t a.steps n t.entry answers performed left r (e ∙ k)) ∙ ap (λ (m : ℕ). block_run t m t.entry answers) (sym q) ∙ a.block_stops n ∙ sym a.tree_stops ∙ e'

abbrev pub returns : Run → Bool
returns unfinished = false
returns (stopped performed left (returned value id)) = true
returns (stopped performed left (threw value id)) = false
returns (stopped performed left no_answer_left) = false
returns (stopped performed left not_plain) = false
returns (stopped performed left (no_target id)) = false
returns (stopped performed left end_of_tree) = false
returns (stopped performed left no_such_case) = false

-- whichever tree is in the buffer, it is the one that was built
picks_tree : (law : SwitchLaw picks (built rust picks 900 300)) → law.one.tree ≡ tree_of (build_tree rust (table_of picks))
picks_tree law =
    let a : Accepted rust picks 900 300 = accepted_of rust picks 900 300 (computed rust).3.2 in
    tree_is_built rust picks 900 300 a law.one ∙ sym (ap tree_of a.builds)

-- the table is plain with switches and accepted, and the law does not hold of what the first entry gave
pub not_for_rust : SwitchLaw picks (built rust picks 900 300) → ⊥
not_for_rust law =
    true_false (ap returns (stop_alike (table_of picks) law.one.tree (1 ∷ 1 ∷ []) 40 (stopped (0 ∷ 1 ∷ 2 ∷ 5 ∷ 3 ∷ []) [] (returned 0 4))
    (stopped (0 ∷ 1 ∷ 2 ∷ 5 ∷ 7 ∷ 1 ∷ []) [] no_answer_left) (0 ∷ 1 ∷ 2 ∷ 5 ∷ 3 ∷ []) [] (returned 0 4) refl
    (law.agree (1 ∷ 1 ∷ []) picks_spoken.1) (computed rust).2.0
    (ap (λ (s : Statements). tree_run s (1 ∷ 1 ∷ [])) (picks_tree law) ∙ (computed rust).2.1)))
