-- The ★ samples of paper 01, and spans of paper 02 (M-108), from their words and the length of a lent buffer: one tabulated claim over `built`, by computation. For the reader.
use mathlib.Core.Path.{◌≡◌, refl}
use Prim.Native.Nat.{ℕ}
use mathlib.Core.List.{List, [], ◌∷◌, ◌++◌, map}
use Rattle.table.specs.Words.{word, entry_word, block_count, instruction_count, case_count, place_count, identifier_count, blocks_begin, instructions_begin, cases_begin}
use Rattle.table.specs.Words.{places_begin, identifiers_begin, words_needed, block_word, instruction_word, case_word, place_word, identifier_word}
use Rattle.table.specs.Table.{unless_none, variant_of, terminal_of, block_of, operation_of, instruction_of, case_of, tabulate, table_of}
use Rattle.table.specs.Check.{fits, block, block_or_none, place, place_or_none, terminal_rules, block_rules, operand_rules, instruction_rules, case_rules}
use Rattle.table.specs.Check.{place_rules, identifier_rules, and_then, row_verdict, rows_verdict, words_verdict, counts_verdict, checked}
use Rattle.definition.specs.Result.{◌>>=◌, refuse_if}
use Rattle.definition.specs.Context.{no_flags, has, add, remove, start, is_scheduled, emit, with_visits, mark_scope_fallthrough, schedule_catch_handler, pushed}
use Rattle.definition.specs.Context.{schedule, unscheduled_by, popped, unschedule_top, unschedule, break_kind, break_target_from, get_break_target, continue_kind}
use Rattle.definition.specs.Context.{continue_target_from, get_continue_target}
use Rattle.definition.specs.Value.{begin_visit, instructions_of, wrap_with_sequence, final_value, final_place, stored_to_named, all_but_last, last}
use Rattle.definition.specs.Value.{extract_value_block_result, extract_or_refuse, test_block_ended, visit_test_block, visit_value_block_terminal, then_fallthrough}
use Rattle.definition.specs.Value.{branch_value, is_empty_goto, maybe_throw_value, visit_value_block_at, visit_value_block, appended, same_identifier, unless_same}
use Rattle.definition.specs.Value.{value_block_result_to_sequence}
use Rattle.definition.specs.Statement.{enter_block, unless_scheduled, unless_unreachable, schedule_if, schedule_switch, unschedule_if, mark_scope_fallthrough_if}
use Rattle.definition.specs.Statement.{break_to_scope, break_resolved, visit_break, continue_resolved, visit_continue, visit_goto, traverse_unscheduled}
use Rattle.definition.specs.Statement.{traverse_alternate, traverse_consequent, traverse_enclosed, loop_is_taken, traverse_loop, visit_update, cases_last_first}
use Rattle.definition.specs.Statement.{traverse_cases, unschedule_all, visit_value_statement, visit_terminal, instruction_statements, then_next, visit_block}
use Rattle.definition.specs.Statement.{traverse_block, build_tree}
use Rattle.definition.specs.Around.{Rule, rust, language, is_switch_inside, kind_by, break_kind_in, is_label, names_statement, names_loop, unnamed, break_unnamed, continue_unnamed}
use Rattle.definition.specs.Index.{in_list, lines, line_words}
use Rattle.definition.specs.Preview.{Preview, preview_of, preview_after, previewed}
use Rattle.definition.specs.Build.{reported, report, refusal, words_of, placed, outcome_of, after_check, built}
use Rattle.definition.specs.Samples.{Return, Break, Continue, Goto, If, Branch, While, empty, table, file, W, W-own-test, PLAIN, LOAD, INSTR, BLOCK}
use Rattle.definition.specs.Samples.{WHILE, RETURN, BREAK, CONTINUE, Sample, accepts, refuses, line, samples, built_for}

-- by either entry
pub the_samples : (rule : Rule) → map (built_for rule) samples ≡ map (λ sample. sample.outcome) samples
unfolding word entry_word block_count instruction_count case_count place_count identifier_count blocks_begin instructions_begin cases_begin places_begin identifiers_begin
    words_needed block_word instruction_word case_word place_word identifier_word unless_none variant_of terminal_of block_of operation_of instruction_of case_of tabulate
    table_of fits block block_or_none place place_or_none terminal_rules block_rules operand_rules instruction_rules case_rules place_rules identifier_rules and_then
    row_verdict rows_verdict words_verdict counts_verdict checked ◌>>=◌ refuse_if no_flags has add remove start is_scheduled emit with_visits mark_scope_fallthrough
    schedule_catch_handler pushed schedule unscheduled_by popped unschedule_top unschedule break_kind break_target_from get_break_target continue_kind continue_target_from
    get_continue_target begin_visit instructions_of wrap_with_sequence final_value final_place stored_to_named all_but_last last extract_value_block_result extract_or_refuse
    test_block_ended visit_test_block visit_value_block_terminal then_fallthrough branch_value is_empty_goto maybe_throw_value visit_value_block_at visit_value_block appended
    same_identifier unless_same value_block_result_to_sequence enter_block unless_scheduled unless_unreachable schedule_if schedule_switch unschedule_if
    mark_scope_fallthrough_if is_switch_inside kind_by break_kind_in is_label names_statement names_loop unnamed break_unnamed continue_unnamed break_to_scope break_resolved
    visit_break continue_resolved visit_continue visit_goto traverse_unscheduled traverse_alternate
    traverse_consequent traverse_enclosed loop_is_taken traverse_loop visit_update cases_last_first traverse_cases unschedule_all visit_value_statement visit_terminal
    instruction_statements then_next visit_block traverse_block build_tree in_list lines line_words reported report refusal words_of placed outcome_of after_check built
the_samples rust = refl
the_samples language = refl

pub file_sample : built rust file 12288 6144 ≡ (accepts file 12288 6144 2 1 0 (RETURN 0 7 ++ BLOCK 1) []).outcome
file_sample = let same = the_samples rust in cc

-- ---- M-102: where the entries part

abbrev Switch : (test first number fallthrough : ℕ) → List ℕ
Switch test first number fallthrough = 7 ∷ test ∷ first ∷ number ∷ fallthrough ∷ 0 ∷ []

abbrev Label : (body fallthrough : ℕ) → List ℕ
Label body fallthrough = 16 ∷ body ∷ fallthrough ∷ 0 ∷ 0 ∷ 0 ∷ []

abbrev CASE : (test : ℕ) → List ℕ
CASE test = 11 ∷ test ∷ 0 ∷ 0 ∷ 0 ∷ 0 ∷ []

abbrev SWITCH : (test cases id label : ℕ) → List ℕ
SWITCH test cases id label = 12 ∷ test ∷ cases ∷ id ∷ label ∷ 0 ∷ []

-- with one case row, of the test 0 and this block
abbrev table_case : (number : ℕ) → (blocks : List ℕ) → (case : ℕ) → List ℕ
table_case number blocks case = 0 ∷ number ∷ 0 ∷ 1 ∷ 1 ∷ 1 ∷ blocks ++ 0 ∷ case ∷ 0 ∷ 1 ∷ []

-- a break out of a loop, in a switch that took its fallthrough 5, and in one that did not, as its fallthrough is the loop's test
abbrev out_of_switch : (fallthrough : ℕ) → List ℕ
out_of_switch fallthrough =
    table_case 6 (empty (While 1 2 3) 1 ++ empty (Branch 0 2 3) 2 ++ empty (Switch 0 0 1 fallthrough) 3 ++ empty (Return 0) 4 ++ empty (Goto 3 Break) 5 ++ empty (Goto 1 Continue) 6) 4

-- the same in a loop that did not take its fallthrough 3, inside of a Label that did
abbrev label_of_another : List ℕ
label_of_another =
    table_case 6 (empty (Label 5 3) 1 ++ empty (Branch 0 2 3) 2 ++ empty (Switch 0 0 1 1) 3 ++ empty (Return 0) 4 ++ empty (Goto 3 Break) 5 ++ empty (While 1 2 3) 6) 4

-- that loop, continued from a loop inside of it
abbrev unlabelled_loop : List ℕ
unlabelled_loop =
    table 8 (empty (Label 5 3) 1 ++ empty (Branch 0 2 3) 2 ++ empty (While 4 6 7) 3 ++ empty (Return 0) 4 ++ empty (Branch 0 6 7) 5 ++ empty (While 1 2 3) 6 ++
    empty (Goto 1 Continue) 7 ++ empty (Return 0) 8)

abbrev LABEL : (id label : ℕ) → List ℕ
LABEL id label = 18 ∷ id ∷ label ∷ 0 ∷ 0 ∷ 0 ∷ []

-- the kinds of the jump are 2 (Unlabeled) in the entry that equals the Rust, and 1 (Labeled) in the language entry
abbrev parting : (kind : ℕ) → List Sample
parting kind =
    accepts (out_of_switch 5) 60 6 10 6 2 (LOAD 0 ++ BREAK 3 5 kind 0 ++ BLOCK 1 ++ CASE 0 ++ SWITCH 0 1 3 5 ++ CONTINUE 3 6 0 0 ++ BLOCK 2 ++ WHILE 1 3 ++
    RETURN 0 4 ++ BLOCK 2) (line 5 1 4 ++ line 3 0 7)
    ∷ accepts (out_of_switch 1) 54 3 9 5 1 (LOAD 0 ++ BREAK 3 5 kind 0 ++ BLOCK 1 ++ CASE 0 ++ SWITCH 0 1 3 65535 ++ BLOCK 1 ++ WHILE 1 3 ++ RETURN 0 4 ++ BLOCK 2) (line 3 0 6)
    ∷ accepts label_of_another 66 3 11 6 1 (LOAD 0 ++ BREAK 3 5 kind 0 ++ BLOCK 1 ++ CASE 0 ++ SWITCH 0 1 3 65535 ++ BLOCK 1 ++ WHILE 6 65535 ++ BLOCK 1 ++
    LABEL 1 3 ++ RETURN 0 4 ++ BLOCK 2) (line 3 0 8)
    ∷ []

pub the_parting : (map (built_for rust) (parting 2) ≡ map (λ sample. sample.outcome) (parting 2)) × (map (built_for language) (parting 1) ≡ map (λ sample. sample.outcome) (parting 1))
unfolding word entry_word block_count instruction_count case_count place_count identifier_count blocks_begin instructions_begin cases_begin places_begin identifiers_begin
    words_needed block_word instruction_word case_word place_word identifier_word unless_none variant_of terminal_of block_of operation_of instruction_of case_of tabulate
    table_of fits block block_or_none place place_or_none terminal_rules block_rules operand_rules instruction_rules case_rules place_rules identifier_rules and_then
    row_verdict rows_verdict words_verdict counts_verdict checked ◌>>=◌ refuse_if no_flags has add remove start is_scheduled emit with_visits mark_scope_fallthrough
    schedule_catch_handler pushed schedule unscheduled_by popped unschedule_top unschedule break_kind break_target_from get_break_target continue_kind continue_target_from
    get_continue_target begin_visit instructions_of wrap_with_sequence final_value final_place stored_to_named all_but_last last extract_value_block_result extract_or_refuse
    test_block_ended visit_test_block visit_value_block_terminal then_fallthrough branch_value is_empty_goto maybe_throw_value visit_value_block_at visit_value_block appended
    same_identifier unless_same value_block_result_to_sequence enter_block unless_scheduled unless_unreachable schedule_if schedule_switch unschedule_if
    mark_scope_fallthrough_if is_switch_inside kind_by break_kind_in is_label names_statement names_loop unnamed break_unnamed continue_unnamed break_to_scope break_resolved
    visit_break continue_resolved visit_continue visit_goto traverse_unscheduled traverse_alternate
    traverse_consequent traverse_enclosed loop_is_taken traverse_loop visit_update cases_last_first traverse_cases unschedule_all visit_value_statement visit_terminal
    instruction_statements then_next visit_block traverse_block build_tree in_list lines line_words reported report refusal words_of placed outcome_of after_check built
the_parting = (refl, refl)

-- "a continue the label of the very loop it resolved to"
pub the_refusal : ((built rust unlabelled_loop 6 0).code ≡ 40) × (built_for language (refuses unlabelled_loop 6 0 29 6 0 6) ≡ (refuses unlabelled_loop 6 0 29 6 0 6).outcome)
unfolding word entry_word block_count instruction_count case_count place_count identifier_count blocks_begin instructions_begin cases_begin places_begin identifiers_begin
    words_needed block_word instruction_word case_word place_word identifier_word unless_none variant_of terminal_of block_of operation_of instruction_of case_of tabulate
    table_of fits block block_or_none place place_or_none terminal_rules block_rules operand_rules instruction_rules case_rules place_rules identifier_rules and_then
    row_verdict rows_verdict words_verdict counts_verdict checked ◌>>=◌ refuse_if no_flags has add remove start is_scheduled emit with_visits mark_scope_fallthrough
    schedule_catch_handler pushed schedule unscheduled_by popped unschedule_top unschedule break_kind break_target_from get_break_target continue_kind continue_target_from
    get_continue_target begin_visit instructions_of wrap_with_sequence final_value final_place stored_to_named all_but_last last extract_value_block_result extract_or_refuse
    test_block_ended visit_test_block visit_value_block_terminal then_fallthrough branch_value is_empty_goto maybe_throw_value visit_value_block_at visit_value_block appended
    same_identifier unless_same value_block_result_to_sequence enter_block unless_scheduled unless_unreachable schedule_if schedule_switch unschedule_if
    mark_scope_fallthrough_if is_switch_inside kind_by break_kind_in is_label names_statement names_loop unnamed break_unnamed continue_unnamed break_to_scope break_resolved
    visit_break continue_resolved visit_continue visit_goto traverse_unscheduled traverse_alternate
    traverse_consequent traverse_enclosed loop_is_taken traverse_loop visit_update cases_last_first traverse_cases unschedule_all visit_value_statement visit_terminal
    instruction_statements then_next visit_block traverse_block build_tree in_list lines line_words reported report refusal words_of placed outcome_of after_check built
the_refusal = (refl, refl)

-- ---- M-101: the index

abbrev IF : (test present id label : ℕ) → List ℕ
IF test present id label = 10 ∷ test ∷ present ∷ id ∷ label ∷ 0 ∷ []

-- W with one instruction, of id 9, in block 0
abbrev W-instruction : List ℕ
W-instruction =
    0 ∷ 4 ∷ 1 ∷ 0 ∷ 1 ∷ 1 ∷ (0 ∷ 1 ∷ While 1 2 3 ++ 1 ∷ 0 ∷ 0 ∷ []) ++ empty (Branch 0 2 3) 2 ++ empty (Goto 1 Continue) 3 ++ empty (Return 0) 4
    ++ 9 ∷ 0 ∷ 0 ∷ 0 ∷ 0 ∷ 0 ∷ 0 ∷ 0 ∷ 1 ∷ []

-- an If inside of a Label, both at row 0
abbrev nested : List ℕ
nested = table 5 (empty (Label 1 2) 1 ++ empty (If 0 3 4 4) 2 ++ empty (Return 0) 3 ++ empty (Goto 4 Break) 4 ++ empty (Goto 2 Break) 5)

abbrev no_parts : List ℕ
no_parts = table 2 (empty (Switch 0 0 0 1) 1 ++ empty (Return 0) 2)

-- M-101: a statement's own rows begin after the INSTRs of its block; the inner of two before the outer; a statement with no part; 41 after 40
abbrev pub indexed : List Sample
indexed =
    accepts W-instruction 48 6 8 4 1 (PLAIN 0 ++ INSTR 9 0 0 0 ++ LOAD 0 ++ CONTINUE 3 3 0 0 ++ BLOCK 1 ++ WHILE 1 3 ++ RETURN 0 4 ++ BLOCK 3) (line 3 2 5)
    ∷ refuses W-instruction 48 2 41 0 0 4
    ∷ refuses W-instruction 47 2 40 0 8 4
    ∷ accepts nested 48 6 8 5 2 (BREAK 4 4 0 0 ++ BLOCK 1 ++ IF 0 0 2 4 ++ BREAK 2 5 0 0 ++ BLOCK 2 ++ LABEL 1 2 ++ RETURN 0 3 ++ BLOCK 2) (line 4 0 2 ++ line 2 0 5)
    ∷ accepts no_parts 18 3 3 2 1 (SWITCH 0 0 1 1 ++ RETURN 0 2 ++ BLOCK 2) (line 1 0 0)
    ∷ []

pub the_indexed : (rule : Rule) → map (built_for rule) indexed ≡ map (λ sample. sample.outcome) indexed
unfolding word entry_word block_count instruction_count case_count place_count identifier_count blocks_begin instructions_begin cases_begin places_begin identifiers_begin
    words_needed block_word instruction_word case_word place_word identifier_word unless_none variant_of terminal_of block_of operation_of instruction_of case_of tabulate
    table_of fits block block_or_none place place_or_none terminal_rules block_rules operand_rules instruction_rules case_rules place_rules identifier_rules and_then
    row_verdict rows_verdict words_verdict counts_verdict checked ◌>>=◌ refuse_if no_flags has add remove start is_scheduled emit with_visits mark_scope_fallthrough
    schedule_catch_handler pushed schedule unscheduled_by popped unschedule_top unschedule break_kind break_target_from get_break_target continue_kind continue_target_from
    get_continue_target begin_visit instructions_of wrap_with_sequence final_value final_place stored_to_named all_but_last last extract_value_block_result extract_or_refuse
    test_block_ended visit_test_block visit_value_block_terminal then_fallthrough branch_value is_empty_goto maybe_throw_value visit_value_block_at visit_value_block appended
    same_identifier unless_same value_block_result_to_sequence enter_block unless_scheduled unless_unreachable schedule_if schedule_switch unschedule_if
    mark_scope_fallthrough_if is_switch_inside kind_by break_kind_in is_label names_statement names_loop unnamed break_unnamed continue_unnamed break_to_scope break_resolved
    visit_break continue_resolved visit_continue visit_goto traverse_unscheduled traverse_alternate
    traverse_consequent traverse_enclosed loop_is_taken traverse_loop visit_update cases_last_first traverse_cases unschedule_all visit_value_statement visit_terminal
    instruction_statements then_next visit_block traverse_block build_tree in_list lines line_words reported report refusal words_of placed outcome_of after_check built
the_indexed rust = refl
the_indexed language = refl

-- ---- M-106: code, at, rows, visits, lines

abbrev numbers : (code at rows visits lines : ℕ) → Preview
numbers code at rows visits lines = record { code = code; at = at; rows = rows; visits = visits; lines = lines }

pub the_previews : (rule : Rule) → map (previewed rule) (W ∷ W-own-test ∷ nested ∷ [] ∷ []) ≡ numbers 0 0 6 4 1 ∷ numbers 15 1 0 1 0 ∷ numbers 0 0 8 5 2 ∷ numbers 1 0 0 0 0 ∷ []
unfolding word entry_word block_count instruction_count case_count place_count identifier_count blocks_begin instructions_begin cases_begin places_begin identifiers_begin
    words_needed block_word instruction_word case_word place_word identifier_word unless_none variant_of terminal_of block_of operation_of instruction_of case_of tabulate
    table_of fits block block_or_none place place_or_none terminal_rules block_rules operand_rules instruction_rules case_rules place_rules identifier_rules and_then
    row_verdict rows_verdict words_verdict counts_verdict checked ◌>>=◌ refuse_if no_flags has add remove start is_scheduled emit with_visits mark_scope_fallthrough
    schedule_catch_handler pushed schedule unscheduled_by popped unschedule_top unschedule break_kind break_target_from get_break_target continue_kind continue_target_from
    get_continue_target begin_visit instructions_of wrap_with_sequence final_value final_place stored_to_named all_but_last last extract_value_block_result extract_or_refuse
    test_block_ended visit_test_block visit_value_block_terminal then_fallthrough branch_value is_empty_goto maybe_throw_value visit_value_block_at visit_value_block appended
    same_identifier unless_same value_block_result_to_sequence enter_block unless_scheduled unless_unreachable schedule_if schedule_switch unschedule_if
    mark_scope_fallthrough_if is_switch_inside kind_by break_kind_in is_label names_statement names_loop unnamed break_unnamed continue_unnamed break_to_scope break_resolved
    visit_break continue_resolved visit_continue visit_goto traverse_unscheduled traverse_alternate
    traverse_consequent traverse_enclosed loop_is_taken traverse_loop visit_update cases_last_first traverse_cases unschedule_all visit_value_statement visit_terminal
    instruction_statements then_next visit_block traverse_block build_tree in_list lines line_words reported report refusal words_of placed
    outcome_of after_check built preview_of preview_after previewed
the_previews rust = refl
the_previews language = refl
