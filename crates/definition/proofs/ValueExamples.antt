-- For the reader: the runs of the examples, by computation.
use mathlib.Core.Path.{◌≡◌, refl, ap}
use Prim.Native.Nat.{ℕ, zero, suc, ◌<◌}
use native.Mathlib.Omega.{arith}
use mathlib.Core.Option.{some}
use lib.Dec.{eqb}
use Rattle.table.specs.Table.{Terminal, try, code_of, terminal_at}
use Rattle.definition.specs.Around.{rust}
use Rattle.definition.specs.Plain.{paper_01, fallthrough_of}
use Rattle.definition.specs.Result.{ok}
use Rattle.definition.specs.Run.{Answers}
use Rattle.definition.specs.Statement.{BlockResult}
use Rattle.definition.proofs.Ranged.{Ranged}
use Rattle.definition.proofs.Steps.{true_false, none_some, some_eq}
use Rattle.definition.specs.ValueExamples.{chain}
use Rattle.definition.specs.ValueLaw.{WideAgree, WideSpoken}
use Rattle.definition.proofs.ValueTest.{test_values, test_loops}
use Rattle.definition.proofs.SeenRows.{seen_values, seen_inits}
use Rattle.definition.proofs.LawOfValues.{table_agrees}
use Rattle.definition.specs.Result.{◌>>=◌, refuse_if}
use Rattle.definition.specs.Context.{no_flags, has, add, remove, start, is_scheduled, emit, with_visits, mark_scope_fallthrough, schedule_catch_handler, pushed}
use Rattle.definition.specs.Context.{schedule, unscheduled_by, popped, unschedule_top, unschedule, break_kind, break_target_from, get_break_target, continue_kind}
use Rattle.definition.specs.Context.{continue_target_from, get_continue_target}
use Rattle.definition.specs.Value.{begin_visit, instructions_of, wrap_with_sequence, final_value, final_place, stored_to_named, all_but_last, last}
use Rattle.definition.specs.Value.{extract_value_block_result, extract_or_refuse, test_block_ended, visit_test_block, visit_value_block_terminal, then_fallthrough}
use Rattle.definition.specs.Value.{branch_value, is_empty_goto, maybe_throw_value, visit_value_block_at, visit_value_block, appended, same_identifier, unless_same}
use Rattle.definition.specs.Value.{value_block_result_to_sequence}
use Rattle.definition.specs.Statement.{enter_block, unless_scheduled, unless_unreachable, schedule_if, schedule_switch, unschedule_if, mark_scope_fallthrough_if}
use Rattle.definition.specs.Statement.{break_to_scope, break_resolved, visit_break, continue_resolved, visit_continue, visit_goto, traverse_unscheduled}
use Rattle.definition.specs.Statement.{traverse_alternate, traverse_consequent, traverse_enclosed, loop_is_taken, traverse_loop, visit_update, cases_last_first}
use Rattle.definition.specs.Statement.{traverse_cases, unschedule_all, visit_value_statement, visit_terminal, instruction_statements, then_next, visit_block}
use Rattle.definition.specs.Statement.{traverse_block, build_tree}
use Rattle.definition.specs.Around.{is_switch_inside, kind_by, break_kind_in, is_label, names_statement, names_loop, unnamed, break_unnamed, continue_unnamed}
use Rattle.definition.specs.BlockRun.{move, by_answer, performing}
use Rattle.definition.specs.Completion.{loop_continues, breakable, labelled}
use Rattle.definition.specs.TreeRun.{completed, completing, prefix, then_on, then, choose, after_body, loop, jump_completion, reason_of}
use Rattle.definition.specs.ValueEnds.{value_end_at, value_end, end_of, ways_of_test, seen}
use Rattle.definition.specs.WideRun.{wide_move, wide_run}
use Rattle.definition.specs.ValueRun.{valued, value_prefix, then_value_on, then_value, ask, taken_over_on, taken_over, run_value, run_optional, run_all}
use Rattle.definition.specs.WideTreeRun.{after_value_on, after_value, wide_rounds, wide_while, wide_statement, wide_statements, wide_tree_run}
use Rattle.definition.specs.ValueExamples.{AllRuns, AllAccepted, AllWide, OddOnes}

pub examples : AllRuns × AllAccepted
unfolding ◌>>=◌ refuse_if no_flags has add remove start is_scheduled emit with_visits mark_scope_fallthrough
    schedule_catch_handler pushed schedule unscheduled_by popped unschedule_top unschedule break_kind break_target_from get_break_target continue_kind continue_target_from
    get_continue_target begin_visit instructions_of wrap_with_sequence final_value final_place stored_to_named all_but_last last extract_value_block_result extract_or_refuse
    test_block_ended visit_test_block visit_value_block_terminal then_fallthrough branch_value is_empty_goto maybe_throw_value visit_value_block_at visit_value_block appended
    same_identifier unless_same value_block_result_to_sequence enter_block unless_scheduled unless_unreachable schedule_if schedule_switch unschedule_if
    mark_scope_fallthrough_if is_switch_inside kind_by break_kind_in is_label names_statement names_loop unnamed break_unnamed continue_unnamed break_to_scope break_resolved
    visit_break continue_resolved visit_continue visit_goto traverse_unscheduled traverse_alternate
    traverse_consequent traverse_enclosed loop_is_taken traverse_loop visit_update cases_last_first traverse_cases unschedule_all visit_value_statement visit_terminal
    instruction_statements then_next visit_block traverse_block build_tree performing move by_answer
    loop_continues breakable labelled completed completing prefix then_on then choose after_body loop jump_completion reason_of
    value_end_at value_end end_of ways_of_test seen wide_move wide_run valued value_prefix then_value_on then_value ask taken_over_on taken_over run_value run_optional run_all
    after_value_on after_value wide_rounds wide_while wide_statement wide_statements wide_tree_run
examples = (
  (
    (refl, refl),
    (refl, refl),
    (refl, refl),
    (refl, refl),
    (refl, refl),
    (refl, refl),
    (refl, refl),
    (refl, refl),
    (refl, refl),
    (refl, refl),
    (refl, refl),
    (refl, refl),
    (refl, refl),
  ),
  (tt, tt, tt, tt, tt),
)

pub tests : AllWide × OddOnes
unfolding last stored_to_named is_empty_goto value_end_at value_end end_of ways_of_test seen cases_last_first same_identifier
tests = ((refl, refl, refl, refl, refl), (refl, refl))

-- ---- the law at a chain: its conditions are met together

ranged_chain : Ranged chain
ranged_chain = record { few = omega arith; fallthroughs = λ b f e. below b f e; bindings = λ b x h f n e. absurd (none_try b x h f n e) }
  where
    below : (b f : ℕ) → fallthrough_of (terminal_at chain b) ≡ some f → f < 8
    below zero f e = let q : 2 ≡ f = some_eq e in omega (arith, q)
    below (suc zero) f e = let q : 6 ≡ f = some_eq e in omega (arith, q)
    below (suc (suc zero)) f e = absurd (none_some e)
    below (suc (suc (suc zero))) f e = absurd (none_some e)
    below (suc (suc (suc (suc zero)))) f e = absurd (none_some e)
    below (suc (suc (suc (suc (suc zero))))) f e = absurd (none_some e)
    below (suc (suc (suc (suc (suc (suc zero)))))) f e = absurd (none_some e)
    below (suc (suc (suc (suc (suc (suc (suc zero))))))) f e = absurd (none_some e)
    below (suc (suc (suc (suc (suc (suc (suc (suc b)))))))) f e = absurd (none_some e)

    none_try : (b x h f n : ℕ) → terminal_at chain b ≡ try x h f (some n) → ⊥
    none_try zero x h f n e = true_false (ap (λ (z : Terminal). eqb (code_of z) 15) e)
    none_try (suc zero) x h f n e = true_false (ap (λ (z : Terminal). eqb (code_of z) 15) e)
    none_try (suc (suc zero)) x h f n e = true_false (ap (λ (z : Terminal). eqb (code_of z) 3) e)
    none_try (suc (suc (suc zero))) x h f n e = true_false (ap (λ (z : Terminal). eqb (code_of z) 4) e)
    none_try (suc (suc (suc (suc zero)))) x h f n e = true_false (ap (λ (z : Terminal). eqb (code_of z) 4) e)
    none_try (suc (suc (suc (suc (suc zero))))) x h f n e = true_false (ap (λ (z : Terminal). eqb (code_of z) 6) e)
    none_try (suc (suc (suc (suc (suc (suc zero)))))) x h f n e = true_false (ap (λ (z : Terminal). eqb (code_of z) 6) e)
    none_try (suc (suc (suc (suc (suc (suc (suc zero))))))) x h f n e = true_false (ap (λ (z : Terminal). eqb (code_of z) 4) e)
    none_try (suc (suc (suc (suc (suc (suc (suc (suc b)))))))) x h f n e = true_false (ap (λ (z : Terminal). eqb (code_of z) 0) e)

pub chain_agrees : (r : BlockResult) → build_tree rust chain ≡ ok r → (answers : Answers) → WideSpoken chain (seen chain) answers → WideAgree chain (seen chain) r.statements answers
chain_agrees =
    table_agrees chain (seen chain) rust {width = paper_01} tt (test_loops chain paper_01 tests.0.2) ranged_chain
    (seen_values chain (test_loops chain paper_01 tests.0.2).one_fallthrough (test_values chain paper_01 tests.0.2)) (seen_inits chain)
