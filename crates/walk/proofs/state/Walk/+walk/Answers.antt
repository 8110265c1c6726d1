-- The functions of the cycle `walk` meet their contracts. Each answer names the definition's clause (`terminal_by`, `visit_unroll`, ..) and rewrites it by what
-- the calls ensure, in their order; `refuses` hands on a refusal. At a return the parts stand behind one another (`puts`), and omega adds up the bounds.
use Rattle.definition.specs.Context.{with_visits}
use Rattle.definition.specs.Result.{ok, ◌>>=◌, refuse_if}
use Rattle.definition.specs.Statement.{visit_terminal, traverse_alternate, traverse_unscheduled, traverse_enclosed, traverse_consequent, traverse_cases, schedule_ids, then_next, instruction_statements, followed_by}
use Rattle.definition.specs.Tree.{done, IF, LABEL, WHILE, DOWHILE, FOR, FOROF, FORIN, SWITCH, TRY, SCOPE, no_cases, CASE}
use Rattle.definition.proofs.Lines.{chain_put, no_list_put, parts_label, parts_while, parts_do_while, parts_try, parts_scope, parts_for, parts_for_of, parts_for_in, parts_switch, no_case_put, case_put, parts_else, single_put, out_nil}
use Rattle.control.specs.Abstraction.{context_of}
use Rattle.table.specs.Table.{table_of, rows_from, block_at, unless_none}
use Rattle.table.proofs.ColumnLaws.{head_rows}
use Rattle.table.proofs.BlockLaws.{length_rows}
use Rattle.walk.proofs.MetLaws.{refuses, same_state, kept, traverse_30, traverse_more, visit_unroll, terminal_by, chain_count}
use Rattle.walk.proofs.MetLaws.{room_of, line_room, entries_one, fine_shifted, fine_after, fine_next, fine_entered, quiet_out, closes, parts_of_if, loop_is, fallthrough_there, nothing_at, not_absent, fine_valued, valued_state, fine_less, spent_state, binding_word, scope_row_is, value_ends, room_built, fine_case, consequent_nested, then_body, then_body_off}
use Rattle.walk.proofs.JumpLaws.{break_unlined_by}
use Rattle.definition.specs.Output.{◌⊕◌, instructions_out}
use Rattle.definition.specs.Put.{step_put}
use Rattle.walk.proofs.ListLaws.{first_follows, ends_ok, ends_refused, goes_on, then_more}
use Rattle.walk.proofs.EntriesLaws.{same_ids, scheduled_ids, ids_length}
use Rattle.walk.proofs.CasesLaws.{cases_split, none_built, builds_refused, builds_same, builds_on, all_built, switch_ids, last_are, last_there}
use Rattle.definition.specs.Value.{value_block_result_to_sequence}
use Rattle.values.specs.declared.result.Tally.{Tally}
use Rattle.walk.specs.Around.{around_of}
use Rattle.walk.proofs.AroundLaws.{around_within}
use Rattle.walk.proofs.OutLaws.{out_length}
use Rattle.walk.specs.Met.{terminal_result, block_result, body_outcome}
use mathlib.Core.Bool.{true, false}
use mathlib.Core.Option.{none, some}
use mathlib.Core.Path.{◌≡◌, refl, sym, ap, ◌∙◌}
use mathlib.Core.List.{List, [], ◌∷◌}
use Prim.Native.Nat.{ℕ}
use Rattle.definition.specs.Tree.{row}
use Rattle.definition.specs.Put.{block_put}
use Rattle.walk.specs.State.{state, ids_on}
use native.Mathlib.Omega.{arith}
use borrow.Author.Tests.{eq-eqb, ne_eqb}
use Rattle.table.specs.Columns.{maybe_of}
use Rattle.walk.proofs.state.Walk.+walk.Goals as goal

-- ---- traverse_block, visit_block

pub traverse_block-returns-then-levels-eq0 : goal.traverse_block-returns-then-levels-eq0
unfolding context_of
traverse_block-returns-then-levels-eq0 t c = traverse_30 _ _ _ _ c.if-levels-eq0.true ∙ rw c.after.ensures refl

pub traverse_block-visit_block-requires : goal.traverse_block-visit_block-requires
traverse_block-visit_block-requires t c = (omega (arith, c.if-levels-eq0.false), (c.requires.there, c.requires.fine))

pub traverse_block-returns : goal.traverse_block-returns
traverse_block-returns t c =
    let list = c.in_ok-count.ensures in
    let put = c.put.ensures in
    record {
      part = list.part;
      same = traverse_more _ _ _ _ c.if-levels-eq0.false ∙ list.same ∙ ap (λ z. ok (block_result list.part z)) (sym (same_state c.visit_block.new.self c.put.new.self put.cx put.visits));
      puts = λ origin out o. rw list.says.count (put.puts origin _ (list.puts origin out o));
      says = tt;
      whole = rw put.cx list.whole;
      numbers = omega (arith, put.rows, put.visits, put.lines, kept c.visit_block.new.self c.put.new.self put.cx, list.numbers, list.says.block_row);
    }

pub visit_block-loop-table-init : goal.visit_block-loop-table-init
visit_block-loop-table-init t c = first_follows _ _ _ _ _ c.requires.there c.requires.fine

pub visit_block-returns-in_err-enter_block : goal.visit_block-returns-in_err-enter_block
unfolding ◌>>=◌
visit_block-returns-in_err-enter_block t c =
    refuses _ _ _ c.from_residual.ensures (ends_refused _ _ _ _ _ _ c.loop-table.invariant (visit_unroll _ _ _ _ _ ∙ rw c.in_err-enter_block.ensures refl))

pub visit_block-visit_terminal-requires : goal.visit_block-visit_terminal-requires
visit_block-visit_terminal-requires t c =
    let entered = c.in_ok-enter_block.ensures.1 in
    (omega arith, (c.loop-table.invariant.there, (entered.present, fine_entered entered c.put_instructions.ensures c.block-head.ensures)))

pub visit_block-returns-in_err-terminal : goal.visit_block-returns-in_err-terminal
unfolding ◌>>=◌
visit_block-returns-in_err-terminal t c =
    let put = c.put_instructions.ensures in
    refuses _ _ _ c.from_residual-in_err-terminal.ensures (ends_refused _ _ _ _ _ _ c.loop-table.invariant
    (visit_unroll _ _ _ _ _ ∙ rw (c.in_ok-enter_block.ensures.0, ← same_state c.enter_block.new.self c.put_instructions.new.self put.cx put.visits, c.in_err-terminal.ensures) refl))

pub visit_block-loop-table-preserved : goal.visit_block-loop-table-preserved
unfolding ◌>>=◌
visit_block-loop-table-preserved t c =
    let list = c.loop-table.invariant in
    let entered = c.in_ok-enter_block.ensures.1 in
    let put = c.put_instructions.ensures in
    let end = c.in_ok-terminal.ensures in
    let head = c.block-head.ensures in
    let there = end.says.there in
    let words = table_of c.args.table.words.now in
    let rows = rows_from c.block-head.result.first c.block-head.result.count in
    let same = kept c.enter_block.new.self c.put_instructions.new.self put.cx in
    record {
      wrap = λ more. list.wrap (instruction_statements words rows (followed_by end.part more));
      put = λ out. step_put (list.put out ⊕ instructions_out words rows) end.part;
      same = goes_on _ _ _ _ _ _ (λ more. instruction_statements words rows (followed_by end.part more)) list
          (visit_unroll _ _ _ _ _ ∙ rw (c.in_ok-enter_block.ensures.0, ← same_state c.enter_block.new.self c.put_instructions.new.self put.cx put.visits, end.same, c.in-Some.is) (then_more _ _ _ _ _ _ _ (head_rows head)));
      puts = λ origin out o. end.puts origin _ (put.puts origin _ (quiet_out entered.quiet (list.puts origin out o)));
      splits = λ out more. list.splits out (instruction_statements words rows (followed_by end.part more)) ∙ chain_put (list.put out) words rows end.part more;
      counts = λ more. omega (arith, list.counts (instruction_statements words rows (followed_by end.part more)), chain_count words rows end.part more, end.says.count, length_rows c.block-head.result.first c.block-head.result.count);
      there = rw c.in-Some.is at there;
      fine = fine_next (fine_entered entered put head) end.whole end.numbers;
      rises = omega (arith, list.rises, entered.visits, put.visits, end.numbers);
      few = omega (arith, list.few, entered.visits, put.visits, end.numbers, head.few, head.there, end.says.few);
      rows = omega (arith, list.rows, entered.visits, entered.quiet, put.visits, put.rows, end.numbers, head.few, head.there);
      len = omega (arith, list.len, entered, same, end.numbers);
      id = omega (arith, list.id, entered, same, end.numbers);
      lines = omega (arith, list.lines, entered, entered.quiet, same, put.lines, end.numbers);
    }

pub visit_block-returns : goal.visit_block-returns
unfolding ◌>>=◌ then_next
visit_block-returns t c =
    let list = c.loop-table.invariant in
    let entered = c.in_ok-enter_block.ensures.1 in
    let put = c.put_instructions.ensures in
    let end = c.in_ok-terminal.ensures in
    let head = c.block-head.ensures in
    let words = table_of c.args.table.words.now in
    let rows = rows_from c.block-head.result.first c.block-head.result.count in
    let last = instruction_statements words rows (followed_by end.part done) in
    let same = kept c.enter_block.new.self c.put_instructions.new.self put.cx in
    record {
      part = list.wrap last;
      same = ends_ok _ _ _ _ _ last _ list (visit_unroll _ _ _ _ _ ∙ rw (c.in_ok-enter_block.ensures.0, ← same_state c.enter_block.new.self c.put_instructions.new.self put.cx put.visits, end.same, c.in-None.is, head_rows head) refl);
      puts = λ origin out o. rw (list.splits out last, chain_put (list.put out) words rows end.part done, no_list_put) (end.puts origin _ (put.puts origin _ (quiet_out entered.quiet (list.puts origin out o))));
      says = record {
        count = omega (arith, list.counts last, chain_count words rows end.part done, end.says.count, length_rows c.block-head.result.first c.block-head.result.count);
        few = omega (arith, list.few, entered.visits, put.visits, end.numbers, head.few, head.there, end.says.few);
        block_row = omega (arith, list.rows, entered.visits, entered.quiet, put.visits, put.rows, end.numbers, head.few, head.there);
      };
      whole = end.whole;
      numbers = omega (arith, list.rises, list.rows, list.len, list.id, list.lines, entered, entered.quiet, same, put.visits, put.rows, put.lines, end.numbers, head.few, head.there);
    }

-- ---- visit_terminal

pub visit_terminal-visit_if-requires : goal.visit_terminal-visit_if-requires
visit_terminal-visit_if-requires t c = (omega arith, (c.requires.there, (c.in-If.ensures, c.requires.fine)))

pub visit_terminal-visit_while-requires : goal.visit_terminal-visit_while-requires
visit_terminal-visit_while-requires t c = (omega arith, (c.requires.there, (c.in-While.ensures, c.requires.fine)))

pub visit_terminal-visit_label-requires : goal.visit_terminal-visit_label-requires
visit_terminal-visit_label-requires t c = (omega arith, (c.requires.there, (c.in-Label.ensures, c.requires.fine)))

-- ---- an alternate

pub traverse_alternate-returns-then-block-fallthrough : goal.traverse_alternate-returns-then-block-fallthrough
unfolding traverse_alternate
traverse_alternate-returns-then-block-fallthrough t c = record {
  part = (false, done);
  same = rw (traverse_alternate, eq-eqb c.args.block c.args.fallthrough c.if-block-fallthrough.true) refl;
  puts = λ origin out o. o;
  says = record { present = refl; lines = omega arith };
  whole = c.requires.fine.whole;
  numbers = omega (arith, c.requires.fine.visits);
}

pub traverse_alternate-returns-in_err-refuse_scheduled : goal.traverse_alternate-returns-in_err-refuse_scheduled
unfolding traverse_alternate traverse_unscheduled ◌>>=◌ refuse_if context_of
traverse_alternate-returns-in_err-refuse_scheduled t c =
    let blocked = c.in_err-refuse_scheduled.ensures in
    refuses _ _ _ c.from_residual.ensures (rw (traverse_alternate, ne_eqb c.args.block c.args.fallthrough c.if-block-fallthrough.false, blocked.0, blocked.1) refl)

pub traverse_alternate-traverse_block-requires : goal.traverse_alternate-traverse_block-requires
traverse_alternate-traverse_block-requires t c = (omega arith, (c.requires.there, c.requires.fine))

pub traverse_alternate-returns-in_err-traverse_block : goal.traverse_alternate-returns-in_err-traverse_block
unfolding traverse_alternate traverse_unscheduled ◌>>=◌ refuse_if context_of
traverse_alternate-returns-in_err-traverse_block t c =
    refuses _ _ _ c.from_residual-in_err-traverse_block.ensures
    (rw (traverse_alternate, ne_eqb c.args.block c.args.fallthrough c.if-block-fallthrough.false, c.in_ok-refuse_scheduled.ensures, c.in_err-traverse_block.ensures) refl)

pub traverse_alternate-returns : goal.traverse_alternate-returns
unfolding traverse_alternate traverse_unscheduled ◌>>=◌ refuse_if context_of
traverse_alternate-returns t c =
    let body = c.in_ok-traverse_block.ensures in
    record {
      part = (true, body.part);
      same = rw (traverse_alternate, ne_eqb c.args.block c.args.fallthrough c.if-block-fallthrough.false, c.in_ok-refuse_scheduled.ensures, body.same) refl;
      puts = body.puts;
      says = record { present = refl; lines = omega (arith, body.numbers) };
      whole = body.whole;
      numbers = omega (arith, body.numbers);
    }

-- ---- a loop's body

pub traverse_loop-returns-then-taken : goal.traverse_loop-returns-then-taken
unfolding body_outcome ◌>>=◌ refuse_if context_of
traverse_loop-returns-then-taken t c = rw (c.if-taken.true, c.after.ensures) refl

pub traverse_loop-traverse_block-requires : goal.traverse_loop-traverse_block-requires
traverse_loop-traverse_block-requires t c = (omega arith, (c.requires.loop_bound, c.requires.fine))

pub traverse_loop-returns : goal.traverse_loop-returns
unfolding body_outcome ◌>>=◌ refuse_if context_of
traverse_loop-returns t c = rw c.if-taken.false (rw (around_within c.rule.result _ c.args.around c.rule.ensures) at c.traverse_block.ensures)

-- ---- If

pub visit_if-returns-in_err-label : goal.visit_if-returns-in_err-label
unfolding visit_terminal ◌>>=◌
visit_if-returns-in_err-label t c = refuses _ _ _ c.from_residual.ensures (terminal_by _ _ _ _ _ c.requires.ends ∙ rw c.in_err-label.ensures refl)

pub visit_if-schedule_if-requires-clause-room : goal.visit_if-schedule_if-requires-clause-room
visit_if-schedule_if-requires-clause-room t c = room_of c.requires.fine

pub visit_if-returns-in_err-schedule_if : goal.visit_if-returns-in_err-schedule_if
unfolding visit_terminal ◌>>=◌
visit_if-returns-in_err-schedule_if t c =
    refuses _ _ _ c.from_residual-in_err-schedule_if.ensures (terminal_by _ _ _ _ _ c.requires.ends ∙ rw (c.in_ok-label.ensures.0, c.in_err-schedule_if.ensures) refl)

pub visit_if-returns-in_err-refuse_scheduled : goal.visit_if-returns-in_err-refuse_scheduled
unfolding visit_terminal traverse_unscheduled ◌>>=◌ refuse_if context_of
visit_if-returns-in_err-refuse_scheduled t c =
    let blocked = c.in_err-refuse_scheduled.ensures in
    refuses _ _ _ c.from_residual-in_err-refuse_scheduled.ensures
    (terminal_by _ _ _ _ _ c.requires.ends ∙ rw (c.in_ok-label.ensures.0, c.in_ok-schedule_if.ensures.0, blocked.0, blocked.1) refl)

pub visit_if-traverse_block-requires : goal.visit_if-traverse_block-requires
visit_if-traverse_block-requires t c =
    (omega arith, (c.requires.ends.named.1, fine_shifted c.requires.fine c.in_ok-schedule_if.ensures.1 (entries_one c.in_ok-label.label)))

pub visit_if-returns-in_err-traverse_block : goal.visit_if-returns-in_err-traverse_block
unfolding visit_terminal traverse_unscheduled ◌>>=◌ refuse_if
visit_if-returns-in_err-traverse_block t c =
    refuses _ _ _ c.from_residual-in_err-traverse_block.ensures
    (terminal_by _ _ _ _ _ c.requires.ends ∙ rw (c.in_ok-label.ensures.0, c.in_ok-schedule_if.ensures.0, c.in_ok-refuse_scheduled.ensures, rw (around_within c.rule.result _ c.args.around c.rule.ensures) at c.in_err-traverse_block.ensures) refl)

pub visit_if-traverse_alternate-requires : goal.visit_if-traverse_alternate-requires
visit_if-traverse_alternate-requires t c =
    let first = c.in_ok-traverse_block.ensures in
    (omega arith, (c.requires.ends.named.2, fine_after (fine_shifted c.requires.fine c.in_ok-schedule_if.ensures.1 (entries_one c.in_ok-label.label)) first.whole first.numbers))

pub visit_if-returns-in_err-present : goal.visit_if-returns-in_err-present
unfolding visit_terminal traverse_unscheduled ◌>>=◌ refuse_if
visit_if-returns-in_err-present t c =
    let first = rw (around_within c.rule.result _ c.args.around c.rule.ensures) at c.in_ok-traverse_block.ensures in
    refuses _ _ _ c.from_residual-in_err-present.ensures
    (terminal_by _ _ _ _ _ c.requires.ends
    ∙ rw (c.in_ok-label.ensures.0, c.in_ok-schedule_if.ensures.0, c.in_ok-refuse_scheduled.ensures, first.same, rw (around_within c.rule.result _ c.args.around c.rule.ensures) at c.in_err-present.ensures) refl)

pub visit_if-returns-in_err-unschedule_if : goal.visit_if-returns-in_err-unschedule_if
unfolding visit_terminal traverse_unscheduled ◌>>=◌ refuse_if context_of
visit_if-returns-in_err-unschedule_if t c =
    let first = rw (around_within c.rule.result _ c.args.around c.rule.ensures) at c.in_ok-traverse_block.ensures in
    let second = rw (around_within c.rule.result _ c.args.around c.rule.ensures) at c.in_ok-present.ensures in
    refuses _ _ _ c.from_residual-in_err-unschedule_if.ensures
    (terminal_by _ _ _ _ _ c.requires.ends
    ∙ rw (c.in_ok-label.ensures.0, c.in_ok-schedule_if.ensures.0, c.in_ok-refuse_scheduled.ensures, first.same, second.same, c.in_err-unschedule_if.ensures) refl)

pub visit_if-close-requires-clause-lines : goal.visit_if-close-requires-clause-lines
visit_if-close-requires-clause-lines t c =
    let sched = c.in_ok-schedule_if.ensures.1 in
    let off = c.in_ok-unschedule_if.ensures.1 in
    line_room c.args.self.now c.unschedule_if.new.self c.requires.fine off.whole
    (omega (arith, sched.quiet, sched.marks, c.in_ok-traverse_block.ensures.numbers, c.in_ok-present.ensures.says.lines, off.quiet, off.marks, c.requires.fine.lines))

pub visit_if-returns : goal.visit_if-returns
unfolding visit_terminal traverse_unscheduled ◌>>=◌ refuse_if context_of
visit_if-returns t c =
    let head = c.block-head.ensures in
    let label = c.in_ok-label.ensures in
    let next = fallthrough_there c.in_ok-label.label label.1 c.requires.ends.named.3 in
    let sched = c.in_ok-schedule_if.ensures in
    let first = rw (around_within c.rule.result _ c.args.around c.rule.ensures) at c.in_ok-traverse_block.ensures in
    let second = rw (around_within c.rule.result _ c.args.around c.rule.ensures) at c.in_ok-present.ensures in
    let off = c.in_ok-unschedule_if.ensures in
    let close = rw (c.or_none.ensures, ← second.says.present) at c.close.ensures in
    rw c.statement.ensures (record {
      part = some (IF c.args.end.test c.block-head.result.id (maybe_of c.in_ok-label.label) first.part second.part.0 second.part.1);
      same = terminal_by _ _ _ _ _ c.requires.ends
          ∙ rw (head.is_id, label.0, sched.0, c.in_ok-refuse_scheduled.ensures, first.same, second.same, off.0, same_state c.unschedule_if.new.self c.close.new.self close.cx close.visits) refl;
      puts = λ origin out o. closes out _ close (parts_of_if out _ _ _ first.part second.part) (sym (out_length o)) refl
          (quiet_out off.1.quiet (second.puts origin _ (first.puts origin out (quiet_out sched.1.quiet o))));
      says = record { count = refl; few = omega arith; there = next };
      whole = rw close.cx off.1.whole;
      numbers = omega (
        arith,
        sched.1,
        sched.1.quiet,
        first.numbers,
        second.numbers,
        second.says.lines,
        off.1,
        off.1.quiet,
        close.rows,
        close.visits,
        close.lines,
        kept c.unschedule_if.new.self c.close.new.self close.cx,
        entries_one c.in_ok-label.label,
      );
    })

-- ---- Label

pub visit_label-returns-in_err-label : goal.visit_label-returns-in_err-label
unfolding visit_terminal ◌>>=◌
visit_label-returns-in_err-label t c = refuses _ _ _ c.from_residual.ensures (terminal_by _ _ _ _ _ c.requires.ends ∙ rw c.in_err-label.ensures refl)

pub visit_label-schedule_if-requires-clause-room : goal.visit_label-schedule_if-requires-clause-room
visit_label-schedule_if-requires-clause-room t c = room_of c.requires.fine

pub visit_label-returns-in_err-schedule_if : goal.visit_label-returns-in_err-schedule_if
unfolding visit_terminal ◌>>=◌
visit_label-returns-in_err-schedule_if t c =
    refuses _ _ _ c.from_residual-in_err-schedule_if.ensures (terminal_by _ _ _ _ _ c.requires.ends ∙ rw (c.in_ok-label.ensures.0, c.in_err-schedule_if.ensures) refl)

pub visit_label-returns-in_err-refuse_scheduled : goal.visit_label-returns-in_err-refuse_scheduled
unfolding visit_terminal traverse_enclosed traverse_unscheduled ◌>>=◌ refuse_if context_of
visit_label-returns-in_err-refuse_scheduled t c =
    let blocked = c.in_err-refuse_scheduled.ensures in
    refuses _ _ _ c.from_residual-in_err-refuse_scheduled.ensures
    (terminal_by _ _ _ _ _ c.requires.ends ∙ rw (c.in_ok-label.ensures.0, c.in_ok-schedule_if.ensures.0, blocked.0, blocked.1) refl)

pub visit_label-traverse_block-requires : goal.visit_label-traverse_block-requires
visit_label-traverse_block-requires t c =
    (omega arith, (c.requires.ends.named.0, fine_shifted c.requires.fine c.in_ok-schedule_if.ensures.1 (entries_one c.in_ok-label.label)))

pub visit_label-returns-in_err-traverse_block : goal.visit_label-returns-in_err-traverse_block
unfolding visit_terminal traverse_enclosed traverse_unscheduled ◌>>=◌ refuse_if
visit_label-returns-in_err-traverse_block t c =
    refuses _ _ _ c.from_residual-in_err-traverse_block.ensures
    (terminal_by _ _ _ _ _ c.requires.ends ∙ rw (c.in_ok-label.ensures.0, c.in_ok-schedule_if.ensures.0, c.in_ok-refuse_scheduled.ensures, rw (around_within c.rule.result _ c.args.around c.rule.ensures) at c.in_err-traverse_block.ensures) refl)

pub visit_label-returns-in_err-unschedule_if : goal.visit_label-returns-in_err-unschedule_if
unfolding visit_terminal traverse_enclosed traverse_unscheduled ◌>>=◌ refuse_if context_of
visit_label-returns-in_err-unschedule_if t c =
    let body = rw (around_within c.rule.result _ c.args.around c.rule.ensures) at c.in_ok-traverse_block.ensures in
    refuses _ _ _ c.from_residual-in_err-unschedule_if.ensures
    (terminal_by _ _ _ _ _ c.requires.ends
    ∙ rw (c.in_ok-label.ensures.0, c.in_ok-schedule_if.ensures.0, c.in_ok-refuse_scheduled.ensures, body.same, c.in_err-unschedule_if.ensures) refl)

pub visit_label-close-requires-clause-lines : goal.visit_label-close-requires-clause-lines
visit_label-close-requires-clause-lines t c =
    let sched = c.in_ok-schedule_if.ensures.1 in
    let off = c.in_ok-unschedule_if.ensures.1 in
    line_room c.args.self.now c.unschedule_if.new.self c.requires.fine off.whole
    (omega (arith, sched.quiet, sched.marks, c.in_ok-traverse_block.ensures.numbers, off.quiet, off.marks, c.requires.fine.lines))

pub visit_label-returns : goal.visit_label-returns
unfolding visit_terminal traverse_enclosed traverse_unscheduled ◌>>=◌ refuse_if context_of
visit_label-returns t c =
    let head = c.block-head.ensures in
    let label = c.in_ok-label.ensures in
    let next = fallthrough_there c.in_ok-label.label label.1 c.requires.ends.named.1 in
    let sched = c.in_ok-schedule_if.ensures in
    let body = rw (around_within c.rule.result _ c.args.around c.rule.ensures) at c.in_ok-traverse_block.ensures in
    let off = c.in_ok-unschedule_if.ensures in
    let close = rw c.or_none.ensures at c.close.ensures in
    rw c.statement.ensures (record {
      part = some (LABEL c.block-head.result.id (maybe_of c.in_ok-label.label) body.part);
      same = terminal_by _ _ _ _ _ c.requires.ends
          ∙ rw (head.is_id, label.0, sched.0, c.in_ok-refuse_scheduled.ensures, body.same, off.0, same_state c.unschedule_if.new.self c.close.new.self close.cx close.visits) refl;
      puts = λ origin out o. closes out _ close (parts_label out _ _ body.part) (sym (out_length o)) refl (quiet_out off.1.quiet (body.puts origin out (quiet_out sched.1.quiet o)));
      says = record { count = refl; few = omega arith; there = next };
      whole = rw close.cx off.1.whole;
      numbers = omega (
        arith,
        sched.1,
        sched.1.quiet,
        body.numbers,
        off.1,
        off.1.quiet,
        close.rows,
        close.visits,
        close.lines,
        kept c.unschedule_if.new.self c.close.new.self close.cx,
        entries_one c.in_ok-label.label,
      );
    })

-- ---- While

pub visit_while-returns-in_err-label : goal.visit_while-returns-in_err-label
unfolding visit_terminal ◌>>=◌
visit_while-returns-in_err-label t c = refuses _ _ _ c.from_residual.ensures (terminal_by _ _ _ _ _ c.requires.ends ∙ rw c.in_err-label.ensures refl)

pub visit_while-schedule_loop-requires-clause-room : goal.visit_while-schedule_loop-requires-clause-room
visit_while-schedule_loop-requires-clause-room t c = room_of c.requires.fine

pub visit_while-returns-in_err-schedule_loop : goal.visit_while-returns-in_err-schedule_loop
unfolding visit_terminal ◌>>=◌
visit_while-returns-in_err-schedule_loop t c =
    refuses _ _ _ c.from_residual-in_err-schedule_loop.ensures (terminal_by _ _ _ _ _ c.requires.ends ∙ rw (c.in_ok-label.ensures.0, c.in_err-schedule_loop.ensures) refl)

pub visit_while-returns-in_err-visit_value : goal.visit_while-returns-in_err-visit_value
unfolding visit_terminal ◌>>=◌ context_of
visit_while-returns-in_err-visit_value t c =
    refuses _ _ _ c.from_residual-in_err-visit_value.ensures
    (terminal_by _ _ _ _ _ c.requires.ends ∙ rw (c.block-head.ensures.is_span, c.in_ok-label.ensures.0, c.in_ok-schedule_loop.ensures.0, c.in_err-visit_value.ensures) refl)

pub visit_while-traverse_loop-requires : goal.visit_while-traverse_loop-requires
visit_while-traverse_loop-requires t c =
    let value = c.in_ok-visit_value.ensures in
    (omega (arith, value.rises), (c.requires.there, (c.requires.ends.named.1, fine_valued (fine_shifted c.requires.fine c.in_ok-schedule_loop.ensures.1 (omega arith)) value)))

pub visit_while-returns-in_err-traverse_loop : goal.visit_while-returns-in_err-traverse_loop
unfolding visit_terminal ◌>>=◌ context_of
visit_while-returns-in_err-traverse_loop t c =
    let value = c.in_ok-visit_value.ensures in
    let body = rw (valued_state c.schedule_loop.new.self c.visit_value.new.self value) at c.in_err-traverse_loop.ensures in
    refuses _ _ _ c.from_residual-in_err-traverse_loop.ensures
    (terminal_by _ _ _ _ _ c.requires.ends
    ∙ rw (c.block-head.ensures.is_span, c.block-head.ensures.is_id, c.in_ok-label.ensures.0, c.in_ok-schedule_loop.ensures.0, value.same, ← c.loop_is_taken-taken.ensures)
    (loop_is c.args.table.words.now c.args.levels (around_of c.args.around.now) c.args.block (maybe_of c.in_ok-label.label) c.args.end.loop_block _ _ _ c.schedule_loop.new.self.cx
    (WHILE c.block-head.result.id (maybe_of c.in_ok-label.label) value.value) c.loop_is_taken-taken.result ∙ rw body refl))

pub visit_while-returns-in_err-unschedule : goal.visit_while-returns-in_err-unschedule
unfolding visit_terminal ◌>>=◌ context_of
visit_while-returns-in_err-unschedule t c =
    let value = c.in_ok-visit_value.ensures in
    let body = rw (valued_state c.schedule_loop.new.self c.visit_value.new.self value) at c.in_ok-traverse_loop.ensures in
    refuses _ _ _ c.from_residual-in_err-unschedule.ensures
    (terminal_by _ _ _ _ _ c.requires.ends
    ∙ rw (c.block-head.ensures.is_span, c.block-head.ensures.is_id, c.in_ok-label.ensures.0, c.in_ok-schedule_loop.ensures.0, value.same, ← c.loop_is_taken-taken.ensures)
    (loop_is c.args.table.words.now c.args.levels (around_of c.args.around.now) c.args.block (maybe_of c.in_ok-label.label) c.args.end.loop_block _ _ _ c.schedule_loop.new.self.cx
    (WHILE c.block-head.result.id (maybe_of c.in_ok-label.label) value.value) c.loop_is_taken-taken.result ∙ rw (body.same, c.in_err-unschedule.ensures) refl))

pub visit_while-close-requires-clause-lines : goal.visit_while-close-requires-clause-lines
visit_while-close-requires-clause-lines t c =
    let sched = c.in_ok-schedule_loop.ensures.1 in
    let value = c.in_ok-visit_value.ensures in
    let off = c.in_ok-unschedule.ensures.1 in
    line_room c.args.self.now c.unschedule.new.self c.requires.fine off.whole
    (omega (arith, sched.quiet, sched.marks, value.lines, kept c.schedule_loop.new.self c.visit_value.new.self value.cx, c.in_ok-traverse_loop.ensures.numbers, off.quiet, off.marks, c.requires.fine.lines))

pub visit_while-returns : goal.visit_while-returns
unfolding visit_terminal ◌>>=◌ context_of
visit_while-returns t c =
    let head = c.block-head.ensures in
    let label = c.in_ok-label.ensures in
    let next = fallthrough_there c.in_ok-label.label label.1 c.requires.ends.named.2 in
    let sched = c.in_ok-schedule_loop.ensures in
    let value = c.in_ok-visit_value.ensures in
    let body = rw (valued_state c.schedule_loop.new.self c.visit_value.new.self value) at c.in_ok-traverse_loop.ensures in
    let off = c.in_ok-unschedule.ensures in
    let close = rw c.or_none.ensures at c.close.ensures in
    rw c.statement.ensures (record {
      part = some (WHILE c.block-head.result.id (maybe_of c.in_ok-label.label) value.value body.part);
      same = terminal_by _ _ _ _ _ c.requires.ends
          ∙ rw (head.is_span, head.is_id, label.0, sched.0, value.same, ← c.loop_is_taken-taken.ensures)
          (loop_is c.args.table.words.now c.args.levels (around_of c.args.around.now) c.args.block (maybe_of c.in_ok-label.label) c.args.end.loop_block _ _ _ c.schedule_loop.new.self.cx
          (WHILE c.block-head.result.id (maybe_of c.in_ok-label.label) value.value) c.loop_is_taken-taken.result ∙ rw (body.same, off.0, same_state c.unschedule.new.self c.close.new.self close.cx close.visits) refl);
      puts = λ origin out o. closes out _ close (parts_while out _ _ value.value body.part) (sym (out_length o)) refl
          (quiet_out off.1.quiet (body.puts origin _ (value.puts origin out (quiet_out sched.1.quiet o))));
      says = record { count = refl; few = omega arith; there = next };
      whole = rw close.cx off.1.whole;
      numbers = omega (
        arith,
        sched.1,
        sched.1.quiet,
        value.paid,
        value.rises,
        value.lines,
        kept c.schedule_loop.new.self c.visit_value.new.self value.cx,
        body.numbers,
        off.1,
        off.1.quiet,
        close.rows,
        close.visits,
        close.lines,
        kept c.unschedule.new.self c.close.new.self close.cx,
      );
    })

-- ---- the ends with no statement

pub visit_terminal-returns-in-MaybeThrow : goal.visit_terminal-returns-in-MaybeThrow
unfolding visit_terminal
visit_terminal-returns-in-MaybeThrow t c =
    let next = fallthrough_there c.unless_scheduled.result c.unless_scheduled.ensures.there c.in-MaybeThrow.ensures.named in
    rw c.nothing-in-MaybeThrow.ensures (record {
      part = none;
      same = terminal_by _ _ _ _ _ c.in-MaybeThrow.ensures ∙ rw (← c.unless_scheduled.ensures.label) refl;
      puts = λ origin out o. rw (out_nil out) o;
      says = record { count = refl; few = omega arith; there = next };
      whole = c.requires.fine.whole;
      numbers = omega (arith, c.requires.fine.visits);
    })

pub visit_terminal-unreachable-requires : goal.visit_terminal-unreachable-requires
visit_terminal-unreachable-requires t c = not_absent _ _ (rw c.in-Absent.is at c.terminal.ensures) c.requires.present

pub visit_terminal-returns-in-Unreachable : goal.visit_terminal-returns-in-Unreachable
visit_terminal-returns-in-Unreachable t c =
    rw c.nothing.ensures (record {
      part = none;
      same = nothing_at _ _ _ _ _ (rw c.in-Unreachable.is at c.terminal.ensures);
      puts = λ origin out o. rw (out_nil out) o;
      says = record { count = refl; few = omega arith; there = tt };
      whole = c.requires.fine.whole;
      numbers = omega (arith, c.requires.fine.visits);
    })

pub visit_terminal-visit_branch-requires : goal.visit_terminal-visit_branch-requires
visit_terminal-visit_branch-requires t c = (omega arith, (c.requires.there, (c.in-Branch.ensures, c.requires.fine)))

pub visit_terminal-visit_try-requires : goal.visit_terminal-visit_try-requires
visit_terminal-visit_try-requires t c = (omega arith, (c.requires.there, (c.in-Try.ensures, c.requires.fine)))

pub visit_terminal-visit_do_while-requires : goal.visit_terminal-visit_do_while-requires
visit_terminal-visit_do_while-requires t c = (omega arith, (c.requires.there, (c.in-DoWhile.ensures, c.requires.fine)))

pub visit_terminal-visit_scope-requires : goal.visit_terminal-visit_scope-requires
visit_terminal-visit_scope-requires t c = (omega arith, (c.requires.there, (record { pruned = false; ends = c.in-Scope.ensures; row = refl }, c.requires.fine)))

-- ---- Branch

pub visit_branch-traverse_consequent-requires : goal.visit_branch-traverse_consequent-requires
visit_branch-traverse_consequent-requires t c = (omega arith, (c.requires.there, (c.requires.ends.named.1, c.requires.fine)))

pub visit_branch-returns-in_err-traverse_consequent : goal.visit_branch-returns-in_err-traverse_consequent
unfolding visit_terminal ◌>>=◌
visit_branch-returns-in_err-traverse_consequent t c = refuses _ _ _ c.from_residual.ensures (terminal_by _ _ _ _ _ c.requires.ends ∙ rw c.in_err-traverse_consequent.ensures refl)

pub visit_branch-returns-in_err-refuse_scheduled : goal.visit_branch-returns-in_err-refuse_scheduled
unfolding visit_terminal traverse_unscheduled ◌>>=◌ refuse_if context_of
visit_branch-returns-in_err-refuse_scheduled t c =
    let blocked = c.in_err-refuse_scheduled.ensures in
    refuses _ _ _ c.from_residual-in_err-refuse_scheduled.ensures
    (terminal_by _ _ _ _ _ c.requires.ends ∙ rw (c.in_ok-traverse_consequent.ensures.same, blocked.0, blocked.1) refl)

pub visit_branch-traverse_block-requires : goal.visit_branch-traverse_block-requires
visit_branch-traverse_block-requires t c =
    let first = c.in_ok-traverse_consequent.ensures in
    (omega arith, (c.requires.ends.named.2, fine_next c.requires.fine first.whole first.numbers))

pub visit_branch-returns-in_err-traverse_block : goal.visit_branch-returns-in_err-traverse_block
unfolding visit_terminal traverse_unscheduled ◌>>=◌ refuse_if
visit_branch-returns-in_err-traverse_block t c =
    refuses _ _ _ c.from_residual-in_err-traverse_block.ensures
    (terminal_by _ _ _ _ _ c.requires.ends ∙ rw (c.in_ok-traverse_consequent.ensures.same, c.in_ok-refuse_scheduled.ensures, rw (around_within c.rule.result _ c.args.around c.rule.ensures) at c.in_err-traverse_block.ensures) refl)

pub visit_branch-close-requires-clause-lines : goal.visit_branch-close-requires-clause-lines
visit_branch-close-requires-clause-lines t c =
    let second = c.in_ok-traverse_block.ensures in
    line_room c.args.self.now c.traverse_block.new.self c.requires.fine second.whole
    (omega (arith, c.in_ok-traverse_consequent.ensures.says.lines, second.numbers, c.requires.fine.lines))

pub visit_branch-returns : goal.visit_branch-returns
unfolding visit_terminal traverse_unscheduled ◌>>=◌ refuse_if
visit_branch-returns t c =
    let head = c.block-head.ensures in
    let first = c.in_ok-traverse_consequent.ensures in
    let second = rw (around_within c.rule.result _ c.args.around c.rule.ensures) at c.in_ok-traverse_block.ensures in
    let close = rw c.or_none.ensures at c.close.ensures in
    rw c.statement.ensures (record {
      part = some (IF c.args.end.test c.block-head.result.id none first.part true second.part);
      same = terminal_by _ _ _ _ _ c.requires.ends
          ∙ rw (first.same, c.in_ok-refuse_scheduled.ensures, second.same, head.is_id, same_state c.traverse_block.new.self c.close.new.self close.cx close.visits) refl;
      puts = λ origin out o. closes out _ close (parts_else out _ _ none first.part second.part) (sym (out_length o)) refl (second.puts origin _ (first.puts origin out o));
      says = record { count = refl; few = omega arith; there = tt };
      whole = rw close.cx second.whole;
      numbers = omega (arith, first.numbers, first.says.lines, second.numbers, close.rows, close.visits, close.lines, kept c.traverse_block.new.self c.close.new.self close.cx);
    })

pub traverse_consequent-returns-in_err-count : goal.traverse_consequent-returns-in_err-count
unfolding traverse_consequent ◌>>=◌
traverse_consequent-returns-in_err-count t c =
    refuses _ _ _ c.from_residual.ensures (rw (traverse_consequent, sym c.is_scheduled.ensures ∙ c.if-is_scheduled.true, c.block-id.ensures.is_id, c.in_err-count.ensures) refl)

pub traverse_consequent-returns-then-is_scheduled : goal.traverse_consequent-returns-then-is_scheduled
unfolding traverse_consequent ◌>>=◌
traverse_consequent-returns-then-is_scheduled t c =
    let jump = c.in_ok-count.ensures in
    let put = c.put.ensures in
    record {
      part = followed_by jump.statement done;
      same = rw (
        traverse_consequent,
        sym c.is_scheduled.ensures ∙ c.if-is_scheduled.true,
        c.block-id.ensures.is_id,
        jump.same,
        same_state c.visit_break.new.self c.put.new.self put.cx put.visits,
        same_state c.args.self.now c.visit_break.new.self jump.cx jump.visits,
      ) refl;
      puts = λ origin out o. rw (← single_put out jump.statement (break_unlined_by _ _ _ _ _ _ jump.same), jump.count) (put.puts origin _ (jump.puts origin out o));
      says = record { lines = omega (arith, put.lines, jump.lines, kept c.visit_break.new.self c.put.new.self put.cx, kept c.args.self.now c.visit_break.new.self jump.cx) };
      whole = rw (put.cx, jump.cx) c.requires.fine.whole;
      numbers = omega (
        arith,
        put.rows,
        put.visits,
        put.lines,
        jump.rows,
        jump.visits,
        jump.lines,
        kept c.visit_break.new.self c.put.new.self put.cx,
        kept c.args.self.now c.visit_break.new.self jump.cx,
        c.requires.fine.visits,
      );
    }

pub traverse_consequent-traverse_block-requires : goal.traverse_consequent-traverse_block-requires
traverse_consequent-traverse_block-requires t c = (omega arith, (c.requires.consequent_bound, fine_less c.requires.fine))

pub traverse_consequent-returns : goal.traverse_consequent-returns
unfolding traverse_consequent
traverse_consequent-returns t c =
    rw (traverse_consequent, sym c.is_scheduled.ensures ∙ c.if-is_scheduled.false) (consequent_nested _ _ _ _ (rw (around_within c.rule.result _ c.args.around c.rule.ensures) at c.traverse_block.ensures))

-- ---- DoWhile

pub visit_do_while-schedule_loop-requires-clause-room : goal.visit_do_while-schedule_loop-requires-clause-room
visit_do_while-schedule_loop-requires-clause-room t c = room_of c.requires.fine

pub visit_do_while-returns-in_err-schedule_loop : goal.visit_do_while-returns-in_err-schedule_loop
unfolding visit_terminal ◌>>=◌
visit_do_while-returns-in_err-schedule_loop t c =
    refuses _ _ _ c.from_residual.ensures (terminal_by _ _ _ _ _ c.requires.ends ∙ rw c.in_err-schedule_loop.ensures refl)

pub visit_do_while-traverse_loop-requires : goal.visit_do_while-traverse_loop-requires
visit_do_while-traverse_loop-requires t c = (omega arith, (c.requires.there, (c.requires.ends.named.0, fine_shifted c.requires.fine c.in_ok-schedule_loop.ensures.1 (omega arith))))

pub visit_do_while-returns-in_err-traverse_loop : goal.visit_do_while-returns-in_err-traverse_loop
unfolding visit_terminal body_outcome ◌>>=◌ refuse_if
visit_do_while-returns-in_err-traverse_loop t c =
    refuses _ _ _ c.from_residual-in_err-traverse_loop.ensures
    (terminal_by _ _ _ _ _ c.requires.ends
    ∙ rw (c.in_ok-schedule_loop.ensures.0, ← c.loop_is_taken-taken.ensures, ← c.unless_scheduled-label.ensures.label)
    (then_body_off _ _ _ c.args.block _ _ _ c.loop_is_taken-taken.result _ _ c.in_err-traverse_loop.ensures))

pub visit_do_while-returns-in_err-visit_value : goal.visit_do_while-returns-in_err-visit_value
unfolding visit_terminal ◌>>=◌ refuse_if context_of
visit_do_while-returns-in_err-visit_value t c =
    refuses _ _ _ c.from_residual-in_err-visit_value.ensures
    (terminal_by _ _ _ _ _ c.requires.ends
    ∙ rw (c.in_ok-schedule_loop.ensures.0, ← c.loop_is_taken-taken.ensures, ← c.unless_scheduled-label.ensures.label)
    (then_body _ _ _ c.args.block _ _ _ c.loop_is_taken-taken.result _ c.in_ok-traverse_loop.ensures.same ∙ rw (c.block-head.ensures.is_span, c.in_err-visit_value.ensures) refl))

pub visit_do_while-returns-in_err-unschedule : goal.visit_do_while-returns-in_err-unschedule
unfolding visit_terminal ◌>>=◌ context_of with_visits
visit_do_while-returns-in_err-unschedule t c =
    let body = c.in_ok-traverse_loop.ensures in
    let value = c.in_ok-visit_value.ensures in
    refuses _ _ _ c.from_residual-in_err-unschedule.ensures
    (terminal_by _ _ _ _ _ c.requires.ends
    ∙ rw (c.in_ok-schedule_loop.ensures.0, ← c.loop_is_taken-taken.ensures, ← c.unless_scheduled-label.ensures.label)
    (then_body _ _ _ c.args.block _ _ _ c.loop_is_taken-taken.result _ body.same
    ∙ rw (c.block-head.ensures.is_span, value.same, rw (valued_state c.traverse_loop.new.self c.visit_value.new.self value) at c.in_err-unschedule.ensures) refl))

pub visit_do_while-close-requires-clause-lines : goal.visit_do_while-close-requires-clause-lines
visit_do_while-close-requires-clause-lines t c =
    let sched = c.in_ok-schedule_loop.ensures.1 in
    let value = c.in_ok-visit_value.ensures in
    let off = c.in_ok-unschedule.ensures.1 in
    line_room c.args.self.now c.unschedule.new.self c.requires.fine off.whole
    (omega (arith, sched.quiet, sched.marks, value.lines, kept c.traverse_loop.new.self c.visit_value.new.self value.cx, c.in_ok-traverse_loop.ensures.numbers, off.quiet, off.marks, c.requires.fine.lines))

pub visit_do_while-returns : goal.visit_do_while-returns
unfolding visit_terminal ◌>>=◌ context_of with_visits
visit_do_while-returns t c =
    let head = c.block-head.ensures in
    let next = fallthrough_there c.unless_scheduled-label.result c.unless_scheduled-label.ensures.there c.requires.ends.named.2 in
    let sched = c.in_ok-schedule_loop.ensures in
    let body = c.in_ok-traverse_loop.ensures in
    let value = c.in_ok-visit_value.ensures in
    let off = c.in_ok-unschedule.ensures in
    let close = rw c.or_none.ensures at c.close.ensures in
    rw c.statement.ensures (record {
      part = some (DOWHILE c.block-head.result.id (maybe_of c.unless_scheduled-label.result) body.part value.value);
      same = terminal_by _ _ _ _ _ c.requires.ends
          ∙ rw (sched.0, ← c.loop_is_taken-taken.ensures, ← c.unless_scheduled-label.ensures.label)
          (then_body _ _ _ c.args.block _ _ _ c.loop_is_taken-taken.result _ body.same
          ∙ rw (
            head.is_span,
            value.same,
            rw (valued_state c.traverse_loop.new.self c.visit_value.new.self value) at off.0,
            head.is_id,
            same_state c.unschedule.new.self c.close.new.self close.cx close.visits,
          ) refl);
      puts = λ origin out o. closes out _ close (parts_do_while out _ _ body.part value.value) (sym (out_length o)) refl
          (quiet_out off.1.quiet (value.puts origin _ (body.puts origin out (quiet_out sched.1.quiet o))));
      says = record { count = refl; few = omega arith; there = next };
      whole = rw close.cx off.1.whole;
      numbers = omega (
        arith,
        sched.1,
        sched.1.quiet,
        value.paid,
        value.rises,
        value.visits,
        value.lines,
        kept c.traverse_loop.new.self c.visit_value.new.self value.cx,
        body.numbers,
        off.1,
        off.1.quiet,
        close.rows,
        close.visits,
        close.lines,
        kept c.unschedule.new.self c.close.new.self close.cx,
      );
    })

-- ---- Try

pub visit_try-returns-in_err-label : goal.visit_try-returns-in_err-label
unfolding visit_terminal ◌>>=◌
visit_try-returns-in_err-label t c =
    refuses _ _ _ c.from_residual.ensures
    (terminal_by _ _ _ _ _ c.requires.ends ∙ rw c.in_err-label.ensures refl)

pub visit_try-schedule_if-requires-clause-room : goal.visit_try-schedule_if-requires-clause-room
visit_try-schedule_if-requires-clause-room t c = room_of c.requires.fine

pub visit_try-returns-in_err-schedule_if : goal.visit_try-returns-in_err-schedule_if
unfolding visit_terminal ◌>>=◌
visit_try-returns-in_err-schedule_if t c =
    refuses _ _ _ c.from_residual-in_err-schedule_if.ensures
    (terminal_by _ _ _ _ _ c.requires.ends ∙ rw (c.in_ok-label.ensures.0, c.in_err-schedule_if.ensures) refl)

pub visit_try-returns-in_err-traverse_block : goal.visit_try-returns-in_err-traverse_block
unfolding visit_terminal ◌>>=◌
visit_try-returns-in_err-traverse_block t c =
    refuses _ _ _ c.from_residual-in_err-traverse_block.ensures
    (terminal_by _ _ _ _ _ c.requires.ends ∙ rw (c.in_ok-label.ensures.0, c.in_ok-schedule_if.ensures.0, ← c.schedule_catch_handler.ensures.same, rw (around_within c.rule.result _ c.args.around c.rule.ensures) at c.in_err-traverse_block.ensures) refl)

pub visit_try-returns-in_err-traverse_block-2 : goal.visit_try-returns-in_err-traverse_block-2
unfolding visit_terminal ◌>>=◌
visit_try-returns-in_err-traverse_block-2 t c =
    let first = rw (around_within c.rule.result _ c.args.around c.rule.ensures) at c.in_ok-traverse_block.ensures in
    refuses _ _ _ c.from_residual-in_err-traverse_block-2.ensures
    (terminal_by _ _ _ _ _ c.requires.ends ∙ rw (c.in_ok-label.ensures.0, c.in_ok-schedule_if.ensures.0, ← c.schedule_catch_handler.ensures.same, first.same, rw (around_within c.rule.result _ c.args.around c.rule.ensures) at c.in_err-traverse_block-2.ensures) refl)

pub visit_try-returns-in_err-unschedule_if : goal.visit_try-returns-in_err-unschedule_if
unfolding visit_terminal ◌>>=◌ context_of
visit_try-returns-in_err-unschedule_if t c =
    let first = rw (around_within c.rule.result _ c.args.around c.rule.ensures) at c.in_ok-traverse_block.ensures in
    let second = rw (around_within c.rule.result _ c.args.around c.rule.ensures) at c.in_ok-traverse_block-2.ensures in
    refuses _ _ _ c.from_residual-in_err-unschedule_if.ensures
    (terminal_by _ _ _ _ _ c.requires.ends ∙ rw (c.in_ok-label.ensures.0, c.in_ok-schedule_if.ensures.0, ← c.schedule_catch_handler.ensures.same, first.same, second.same, c.in_err-unschedule_if.ensures) refl)

pub visit_try-close-requires-clause-lines : goal.visit_try-close-requires-clause-lines
visit_try-close-requires-clause-lines t c =
    let sched = c.in_ok-schedule_if.ensures.1 in
    let mark = c.schedule_catch_handler.ensures in
    let off = c.in_ok-unschedule_if.ensures.1 in
    line_room c.args.self.now c.unschedule_if.new.self c.requires.fine off.whole
    (omega (arith, sched.quiet, sched.marks, mark, mark.quiet, c.in_ok-traverse_block.ensures.numbers, c.in_ok-traverse_block-2.ensures.numbers, off.quiet, off.marks, c.requires.fine.lines))

pub visit_try-returns : goal.visit_try-returns
unfolding visit_terminal ◌>>=◌ context_of
visit_try-returns t c =
    let head = c.block-head.ensures in
    let label = c.in_ok-label.ensures in
    let next = fallthrough_there c.in_ok-label.label label.1 c.requires.ends.named.2 in
    let sched = c.in_ok-schedule_if.ensures in
    let mark = c.schedule_catch_handler.ensures in
    let first = rw (around_within c.rule.result _ c.args.around c.rule.ensures) at c.in_ok-traverse_block.ensures in
    let second = rw (around_within c.rule.result _ c.args.around c.rule.ensures) at c.in_ok-traverse_block-2.ensures in
    let off = c.in_ok-unschedule_if.ensures in
    let close = rw (c.or_none.ensures, sym (binding_word c.args.end.binding)) at c.close.ensures in
    rw c.statement.ensures (record {
      part = some (TRY c.block-head.result.id (maybe_of c.in_ok-label.label) (unless_none c.args.end.binding) first.part second.part);
      same = terminal_by _ _ _ _ _ c.requires.ends
          ∙ rw (label.0, sched.0, ← mark.same, first.same, second.same, off.0, head.is_id, same_state c.unschedule_if.new.self c.close.new.self close.cx close.visits) refl;
      puts = λ origin out o. closes out _ close (parts_try out _ _ _ first.part second.part) (sym (out_length o)) refl
          (quiet_out off.1.quiet (second.puts origin _ (first.puts origin out (quiet_out mark.quiet (quiet_out sched.1.quiet o)))));
      says = record { count = refl; few = omega arith; there = next };
      whole = rw close.cx off.1.whole;
      numbers = omega (
        arith,
        sched.1,
        sched.1.quiet,
        mark,
        mark.quiet,
        first.numbers,
        second.numbers,
        off.1,
        off.1.quiet,
        close.rows,
        close.visits,
        close.lines,
        kept c.unschedule_if.new.self c.close.new.self close.cx,
        entries_one c.in_ok-label.label,
      );
    })

-- ---- scopes

pub visit_scope-schedule_if-requires-clause-room : goal.visit_scope-schedule_if-requires-clause-room
visit_scope-schedule_if-requires-clause-room t c = room_of c.requires.fine

pub visit_scope-returns-in_err-schedule_if : goal.visit_scope-returns-in_err-schedule_if
unfolding visit_terminal ◌>>=◌
visit_scope-returns-in_err-schedule_if t c =
    refuses _ _ _ c.from_residual.ensures
    (terminal_by _ _ _ _ _ c.requires.ends.ends ∙ rw (← c.unless_scheduled-next.ensures.label, c.in_err-schedule_if.ensures) refl)

pub visit_scope-returns-in_err-refuse_scheduled : goal.visit_scope-returns-in_err-refuse_scheduled
unfolding visit_terminal traverse_enclosed traverse_unscheduled ◌>>=◌ refuse_if context_of
visit_scope-returns-in_err-refuse_scheduled t c =
    let blocked = c.in_err-refuse_scheduled.ensures in
    refuses _ _ _ c.from_residual-in_err-refuse_scheduled.ensures
    (terminal_by _ _ _ _ _ c.requires.ends.ends ∙ rw (← c.unless_scheduled-next.ensures.label, c.in_ok-schedule_if.ensures.0, ← c.mark_scope_fallthrough_if.ensures.same, blocked.0, blocked.1) refl)

pub visit_scope-returns-in_err-traverse_block : goal.visit_scope-returns-in_err-traverse_block
unfolding visit_terminal traverse_enclosed traverse_unscheduled ◌>>=◌ refuse_if
visit_scope-returns-in_err-traverse_block t c =
    refuses _ _ _ c.from_residual-in_err-traverse_block.ensures
    (terminal_by _ _ _ _ _ c.requires.ends.ends ∙ rw (← c.unless_scheduled-next.ensures.label, c.in_ok-schedule_if.ensures.0, ← c.mark_scope_fallthrough_if.ensures.same, c.in_ok-refuse_scheduled.ensures, rw (around_within c.rule.result _ c.args.around c.rule.ensures) at c.in_err-traverse_block.ensures) refl)

pub visit_scope-returns-in_err-unschedule_if : goal.visit_scope-returns-in_err-unschedule_if
unfolding visit_terminal traverse_enclosed traverse_unscheduled ◌>>=◌ refuse_if context_of
visit_scope-returns-in_err-unschedule_if t c =
    let body = rw (around_within c.rule.result _ c.args.around c.rule.ensures) at c.in_ok-traverse_block.ensures in
    refuses _ _ _ c.from_residual-in_err-unschedule_if.ensures
    (terminal_by _ _ _ _ _ c.requires.ends.ends ∙ rw (← c.unless_scheduled-next.ensures.label, c.in_ok-schedule_if.ensures.0, ← c.mark_scope_fallthrough_if.ensures.same, c.in_ok-refuse_scheduled.ensures, body.same, c.in_err-unschedule_if.ensures) refl)

pub visit_scope-close-requires-clause-lines : goal.visit_scope-close-requires-clause-lines
visit_scope-close-requires-clause-lines t c =
    let sched = c.in_ok-schedule_if.ensures.1 in
    let mark = c.mark_scope_fallthrough_if.ensures in
    let off = c.in_ok-unschedule_if.ensures.1 in
    line_room c.args.self.now c.unschedule_if.new.self c.requires.fine off.whole
    (omega (arith, sched.quiet, sched.marks, mark, mark.quiet, c.in_ok-traverse_block.ensures.numbers, off.quiet, off.marks, c.requires.fine.lines))

pub visit_scope-returns : goal.visit_scope-returns
unfolding visit_terminal traverse_enclosed traverse_unscheduled ◌>>=◌ refuse_if context_of
visit_scope-returns t c =
    let next = fallthrough_there c.unless_scheduled-next.result c.unless_scheduled-next.ensures.there c.requires.ends.ends.named.1 in
    let sched = c.in_ok-schedule_if.ensures in
    let mark = c.mark_scope_fallthrough_if.ensures in
    let body = rw (around_within c.rule.result _ c.args.around c.rule.ensures) at c.in_ok-traverse_block.ensures in
    let off = c.in_ok-unschedule_if.ensures in
    let close = rw (c.requires.ends.row, ← scope_row_is c.requires.ends.pruned c.args.end.scope) at c.close.ensures in
    rw c.statement.ensures (record {
      part = some (SCOPE c.requires.ends.pruned c.args.end.scope body.part);
      same = terminal_by _ _ _ _ _ c.requires.ends.ends
          ∙ rw (← c.unless_scheduled-next.ensures.label, sched.0, ← mark.same, c.in_ok-refuse_scheduled.ensures, body.same, off.0, same_state c.unschedule_if.new.self c.close.new.self close.cx close.visits) refl;
      puts = λ origin out o. closes out _ close (parts_scope out _ _ body.part) (sym (out_length o)) refl
          (quiet_out off.1.quiet (body.puts origin _ (quiet_out mark.quiet (quiet_out sched.1.quiet o))));
      says = record { count = refl; few = omega arith; there = next };
      whole = rw close.cx off.1.whole;
      numbers = omega (
        arith,
        sched.1,
        sched.1.quiet,
        mark,
        mark.quiet,
        body.numbers,
        off.1,
        off.1.quiet,
        close.rows,
        close.visits,
        close.lines,
        kept c.unschedule_if.new.self c.close.new.self close.cx,
        entries_one c.unless_scheduled-next.result,
      );
    })

-- ---- For

pub visit_for-schedule_loop-requires-clause-room : goal.visit_for-schedule_loop-requires-clause-room
visit_for-schedule_loop-requires-clause-room t c = room_of c.requires.fine

pub visit_for-returns-in_err-schedule_loop : goal.visit_for-returns-in_err-schedule_loop
unfolding visit_terminal ◌>>=◌
visit_for-returns-in_err-schedule_loop t c =
    refuses _ _ _ c.from_residual.ensures
    (terminal_by _ _ _ _ _ c.requires.ends ∙ rw (← c.continue_block_of-continue_block.ensures, ← c.unless_scheduled-label.ensures.label, c.in_err-schedule_loop.ensures) refl)

pub visit_for-returns-in_err-visit_flat : goal.visit_for-returns-in_err-visit_flat
unfolding visit_terminal ◌>>=◌ context_of
visit_for-returns-in_err-visit_flat t c =
    refuses _ _ _ c.from_residual-in_err-visit_flat.ensures
    (terminal_by _ _ _ _ _ c.requires.ends ∙ rw (c.block-head.ensures.is_span, c.block-head.ensures.is_id, ← c.continue_block_of-continue_block.ensures, ← c.unless_scheduled-label.ensures.label, c.in_ok-schedule_loop.ensures.0, c.in_err-visit_flat.ensures) refl)

pub visit_for-returns-in_err-visit_value : goal.visit_for-returns-in_err-visit_value
unfolding visit_terminal ◌>>=◌ context_of
visit_for-returns-in_err-visit_value t c =
    let first = c.in_ok-visit_flat.ensures in
    refuses _ _ _ c.from_residual-in_err-visit_value.ensures
    (terminal_by _ _ _ _ _ c.requires.ends ∙ rw (c.block-head.ensures.is_span, c.block-head.ensures.is_id, ← c.continue_block_of-continue_block.ensures, ← c.unless_scheduled-label.ensures.label, c.in_ok-schedule_loop.ensures.0, first.same, first.begun, c.in_err-visit_value.ensures) refl)

pub visit_for-returns-in_err-present : goal.visit_for-returns-in_err-present
unfolding visit_terminal ◌>>=◌ context_of
visit_for-returns-in_err-present t c =
    let first = c.in_ok-visit_flat.ensures in
    let tested = c.in_ok-visit_value.ensures in
    refuses _ _ _ c.from_residual-in_err-present.ensures
    (terminal_by _ _ _ _ _ c.requires.ends ∙ rw (c.block-head.ensures.is_span, c.block-head.ensures.is_id, ← c.continue_block_of-continue_block.ensures, ← c.unless_scheduled-label.ensures.label, c.in_ok-schedule_loop.ensures.0, first.same, first.begun, tested.same, ← ap (λ (y : Tally). y.visits) tested.tally, c.in_err-present.ensures) refl)

pub visit_for-returns-in_err-traverse_loop : goal.visit_for-returns-in_err-traverse_loop
unfolding visit_terminal ◌>>=◌ context_of table_of value_block_result_to_sequence
visit_for-returns-in_err-traverse_loop t c =
    let first = c.in_ok-visit_flat.ensures in
    let tested = c.in_ok-visit_value.ensures in
    let updated = c.in_ok-present.ensures in
    let body = rw (spent_state c.schedule_loop.new.self c.visit_update.new.self (updated.spent.cx ∙ tested.cx ∙ first.spent.cx)) at c.in_err-traverse_loop.ensures in
    refuses _ _ _ c.from_residual-in_err-traverse_loop.ensures
    (terminal_by _ _ _ _ _ c.requires.ends ∙ rw (c.block-head.ensures.is_span, c.block-head.ensures.is_id, ← c.continue_block_of-continue_block.ensures, ← c.unless_scheduled-label.ensures.label, c.in_ok-schedule_loop.ensures.0, first.same, first.begun, tested.same, ← ap (λ (y : Tally). y.visits) tested.tally, updated.same, updated.begun, ← c.loop_is_taken-taken.ensures)
    (loop_is c.args.table.words.now c.args.levels (around_of c.args.around.now) c.args.block (maybe_of c.unless_scheduled-label.result) c.args.end.loop_block _ _ _ c.schedule_loop.new.self.cx
    (FOR c.block-head.result.id (maybe_of c.unless_scheduled-label.result) (value_block_result_to_sequence (table_of c.args.table.words.now) first.value c.block-head.result.span) tested.value updated.value.value) c.loop_is_taken-taken.result ∙ rw body refl))

pub visit_for-returns-in_err-unschedule : goal.visit_for-returns-in_err-unschedule
unfolding visit_terminal ◌>>=◌ context_of table_of value_block_result_to_sequence
visit_for-returns-in_err-unschedule t c =
    let first = c.in_ok-visit_flat.ensures in
    let tested = c.in_ok-visit_value.ensures in
    let updated = c.in_ok-present.ensures in
    let body = rw (spent_state c.schedule_loop.new.self c.visit_update.new.self (updated.spent.cx ∙ tested.cx ∙ first.spent.cx)) at c.in_ok-traverse_loop.ensures in
    refuses _ _ _ c.from_residual-in_err-unschedule.ensures
    (terminal_by _ _ _ _ _ c.requires.ends ∙ rw (c.block-head.ensures.is_span, c.block-head.ensures.is_id, ← c.continue_block_of-continue_block.ensures, ← c.unless_scheduled-label.ensures.label, c.in_ok-schedule_loop.ensures.0, first.same, first.begun, tested.same, ← ap (λ (y : Tally). y.visits) tested.tally, updated.same, updated.begun, ← c.loop_is_taken-taken.ensures)
    (loop_is c.args.table.words.now c.args.levels (around_of c.args.around.now) c.args.block (maybe_of c.unless_scheduled-label.result) c.args.end.loop_block _ _ _ c.schedule_loop.new.self.cx
    (FOR c.block-head.result.id (maybe_of c.unless_scheduled-label.result) (value_block_result_to_sequence (table_of c.args.table.words.now) first.value c.block-head.result.span) tested.value updated.value.value) c.loop_is_taken-taken.result ∙ rw (body.same, c.in_err-unschedule.ensures) refl))

pub visit_for-close-requires-clause-lines : goal.visit_for-close-requires-clause-lines
visit_for-close-requires-clause-lines t c =
    let sched = c.in_ok-schedule_loop.ensures.1 in
    let first = c.in_ok-visit_flat.ensures in
    let tested = c.in_ok-visit_value.ensures in
    let updated = c.in_ok-present.ensures in
    let off = c.in_ok-unschedule.ensures.1 in
    line_room c.args.self.now c.unschedule.new.self c.requires.fine off.whole
    (omega (arith, sched.quiet, sched.marks, first.spent.lines, kept c.schedule_loop.new.self c.visit_flat.new.self first.spent.cx, tested.lines, kept c.visit_flat.new.self c.visit_value.new.self tested.cx, updated.spent.lines, kept c.visit_value.new.self c.visit_update.new.self updated.spent.cx, c.in_ok-traverse_loop.ensures.numbers, off.quiet, off.marks, c.requires.fine.lines))

pub visit_for-returns : goal.visit_for-returns
unfolding visit_terminal ◌>>=◌ context_of table_of value_block_result_to_sequence
visit_for-returns t c =
    let next = fallthrough_there c.unless_scheduled-label.result c.unless_scheduled-label.ensures.there c.requires.ends.named.4 in
    let sched = c.in_ok-schedule_loop.ensures in
    let first = c.in_ok-visit_flat.ensures in
    let tested = c.in_ok-visit_value.ensures in
    let updated = c.in_ok-present.ensures in
    let body = rw (spent_state c.schedule_loop.new.self c.visit_update.new.self (updated.spent.cx ∙ tested.cx ∙ first.spent.cx)) at c.in_ok-traverse_loop.ensures in
    let off = c.in_ok-unschedule.ensures in
    let close = rw (c.or_none.ensures, ← updated.present) at c.close.ensures in
    rw c.statement.ensures (record {
      part = some (FOR c.block-head.result.id (maybe_of c.unless_scheduled-label.result) (value_block_result_to_sequence (table_of c.args.table.words.now) first.value c.block-head.result.span) tested.value updated.value.value body.part);
      same = terminal_by _ _ _ _ _ c.requires.ends
          ∙ rw (c.block-head.ensures.is_span, c.block-head.ensures.is_id, ← c.continue_block_of-continue_block.ensures, ← c.unless_scheduled-label.ensures.label, c.in_ok-schedule_loop.ensures.0, first.same, first.begun, tested.same, ← ap (λ (y : Tally). y.visits) tested.tally, updated.same, updated.begun, ← c.loop_is_taken-taken.ensures)
          (loop_is c.args.table.words.now c.args.levels (around_of c.args.around.now) c.args.block (maybe_of c.unless_scheduled-label.result) c.args.end.loop_block _ _ _ c.schedule_loop.new.self.cx
          (FOR c.block-head.result.id (maybe_of c.unless_scheduled-label.result) (value_block_result_to_sequence (table_of c.args.table.words.now) first.value c.block-head.result.span) tested.value updated.value.value) c.loop_is_taken-taken.result
          ∙ rw (body.same, off.0, same_state c.unschedule.new.self c.close.new.self close.cx close.visits) refl);
      puts = λ origin out o. closes out _ close (parts_for out _ _ _ tested.value updated.value.value body.part) (sym (out_length o)) refl
          (quiet_out off.1.quiet (body.puts origin _ (updated.puts origin _ (tested.puts origin _ (first.puts origin _ (quiet_out sched.1.quiet o))))));
      says = record { count = refl; few = omega arith; there = next };
      whole = rw close.cx off.1.whole;
      numbers = omega (
        arith,
        sched.1,
        sched.1.quiet,
        first.spent.paid,
        first.spent.rises,
        first.spent.visits,
        first.spent.lines,
        kept c.schedule_loop.new.self c.visit_flat.new.self first.spent.cx,
        tested.paid,
        tested.rises,
        tested.visits,
        tested.lines,
        kept c.visit_flat.new.self c.visit_value.new.self tested.cx,
        updated.spent.paid,
        updated.spent.rises,
        updated.spent.visits,
        updated.spent.lines,
        kept c.visit_value.new.self c.visit_update.new.self updated.spent.cx,
        body.numbers,
        off.1,
        off.1.quiet,
        close.rows,
        close.visits,
        close.lines,
        kept c.unschedule.new.self c.close.new.self close.cx,
      );
    })

-- ---- ForOf

pub visit_for_of-schedule_loop-requires-clause-room : goal.visit_for_of-schedule_loop-requires-clause-room
visit_for_of-schedule_loop-requires-clause-room t c = room_of c.requires.fine

pub visit_for_of-returns-in_err-schedule_loop : goal.visit_for_of-returns-in_err-schedule_loop
unfolding visit_terminal ◌>>=◌
visit_for_of-returns-in_err-schedule_loop t c =
    refuses _ _ _ c.from_residual.ensures
    (terminal_by _ _ _ _ _ c.requires.ends ∙ rw (← c.unless_scheduled-label.ensures.label, c.in_err-schedule_loop.ensures) refl)

pub visit_for_of-returns-in_err-visit_flat : goal.visit_for_of-returns-in_err-visit_flat
unfolding visit_terminal ◌>>=◌ context_of
visit_for_of-returns-in_err-visit_flat t c =
    refuses _ _ _ c.from_residual-in_err-visit_flat.ensures
    (terminal_by _ _ _ _ _ c.requires.ends ∙ rw (c.block-head.ensures.is_span, c.block-head.ensures.is_id, ← c.unless_scheduled-label.ensures.label, c.in_ok-schedule_loop.ensures.0, c.in_err-visit_flat.ensures) refl)

pub visit_for_of-returns-in_err-visit_flat-2 : goal.visit_for_of-returns-in_err-visit_flat-2
unfolding visit_terminal ◌>>=◌ context_of
visit_for_of-returns-in_err-visit_flat-2 t c =
    let first = c.in_ok-visit_flat.ensures in
    refuses _ _ _ c.from_residual-in_err-visit_flat-2.ensures
    (terminal_by _ _ _ _ _ c.requires.ends ∙ rw (c.block-head.ensures.is_span, c.block-head.ensures.is_id, ← c.unless_scheduled-label.ensures.label, c.in_ok-schedule_loop.ensures.0, first.same, first.begun, c.in_err-visit_flat-2.ensures) refl)

pub visit_for_of-returns-in_err-traverse_loop : goal.visit_for_of-returns-in_err-traverse_loop
unfolding visit_terminal ◌>>=◌ context_of table_of value_block_result_to_sequence
visit_for_of-returns-in_err-traverse_loop t c =
    let first = c.in_ok-visit_flat.ensures in
    let tested = c.in_ok-visit_flat-2.ensures in
    let body = rw (spent_state c.schedule_loop.new.self c.visit_flat-2.new.self (tested.spent.cx ∙ first.spent.cx)) at c.in_err-traverse_loop.ensures in
    refuses _ _ _ c.from_residual-in_err-traverse_loop.ensures
    (terminal_by _ _ _ _ _ c.requires.ends ∙ rw (c.block-head.ensures.is_span, c.block-head.ensures.is_id, ← c.unless_scheduled-label.ensures.label, c.in_ok-schedule_loop.ensures.0, first.same, first.begun, tested.same, tested.begun, ← c.loop_is_taken-taken.ensures)
    (loop_is c.args.table.words.now c.args.levels (around_of c.args.around.now) c.args.block (maybe_of c.unless_scheduled-label.result) c.args.end.loop_block _ _ _ c.schedule_loop.new.self.cx
    (FOROF c.block-head.result.id (maybe_of c.unless_scheduled-label.result) c.block-head.result.span (value_block_result_to_sequence (table_of c.args.table.words.now) first.value c.block-head.result.span) (value_block_result_to_sequence (table_of c.args.table.words.now) tested.value c.block-head.result.span)) c.loop_is_taken-taken.result ∙ rw body refl))

pub visit_for_of-returns-in_err-unschedule : goal.visit_for_of-returns-in_err-unschedule
unfolding visit_terminal ◌>>=◌ context_of table_of value_block_result_to_sequence
visit_for_of-returns-in_err-unschedule t c =
    let first = c.in_ok-visit_flat.ensures in
    let tested = c.in_ok-visit_flat-2.ensures in
    let body = rw (spent_state c.schedule_loop.new.self c.visit_flat-2.new.self (tested.spent.cx ∙ first.spent.cx)) at c.in_ok-traverse_loop.ensures in
    refuses _ _ _ c.from_residual-in_err-unschedule.ensures
    (terminal_by _ _ _ _ _ c.requires.ends ∙ rw (c.block-head.ensures.is_span, c.block-head.ensures.is_id, ← c.unless_scheduled-label.ensures.label, c.in_ok-schedule_loop.ensures.0, first.same, first.begun, tested.same, tested.begun, ← c.loop_is_taken-taken.ensures)
    (loop_is c.args.table.words.now c.args.levels (around_of c.args.around.now) c.args.block (maybe_of c.unless_scheduled-label.result) c.args.end.loop_block _ _ _ c.schedule_loop.new.self.cx
    (FOROF c.block-head.result.id (maybe_of c.unless_scheduled-label.result) c.block-head.result.span (value_block_result_to_sequence (table_of c.args.table.words.now) first.value c.block-head.result.span) (value_block_result_to_sequence (table_of c.args.table.words.now) tested.value c.block-head.result.span)) c.loop_is_taken-taken.result ∙ rw (body.same, c.in_err-unschedule.ensures) refl))

pub visit_for_of-close-requires-clause-lines : goal.visit_for_of-close-requires-clause-lines
visit_for_of-close-requires-clause-lines t c =
    let sched = c.in_ok-schedule_loop.ensures.1 in
    let first = c.in_ok-visit_flat.ensures in
    let tested = c.in_ok-visit_flat-2.ensures in
    let off = c.in_ok-unschedule.ensures.1 in
    line_room c.args.self.now c.unschedule.new.self c.requires.fine off.whole
    (omega (arith, sched.quiet, sched.marks, first.spent.lines, kept c.schedule_loop.new.self c.visit_flat.new.self first.spent.cx, tested.spent.lines, kept c.visit_flat.new.self c.visit_flat-2.new.self tested.spent.cx, c.in_ok-traverse_loop.ensures.numbers, off.quiet, off.marks, c.requires.fine.lines))

pub visit_for_of-returns : goal.visit_for_of-returns
unfolding visit_terminal ◌>>=◌ context_of table_of value_block_result_to_sequence
visit_for_of-returns t c =
    let next = fallthrough_there c.unless_scheduled-label.result c.unless_scheduled-label.ensures.there c.requires.ends.named.3 in
    let sched = c.in_ok-schedule_loop.ensures in
    let first = c.in_ok-visit_flat.ensures in
    let tested = c.in_ok-visit_flat-2.ensures in
    let body = rw (spent_state c.schedule_loop.new.self c.visit_flat-2.new.self (tested.spent.cx ∙ first.spent.cx)) at c.in_ok-traverse_loop.ensures in
    let off = c.in_ok-unschedule.ensures in
    let close = rw (c.or_none.ensures) at c.close.ensures in
    rw c.statement.ensures (record {
      part = some (FOROF c.block-head.result.id (maybe_of c.unless_scheduled-label.result) c.block-head.result.span (value_block_result_to_sequence (table_of c.args.table.words.now) first.value c.block-head.result.span) (value_block_result_to_sequence (table_of c.args.table.words.now) tested.value c.block-head.result.span) body.part);
      same = terminal_by _ _ _ _ _ c.requires.ends
          ∙ rw (c.block-head.ensures.is_span, c.block-head.ensures.is_id, ← c.unless_scheduled-label.ensures.label, c.in_ok-schedule_loop.ensures.0, first.same, first.begun, tested.same, tested.begun, ← c.loop_is_taken-taken.ensures)
          (loop_is c.args.table.words.now c.args.levels (around_of c.args.around.now) c.args.block (maybe_of c.unless_scheduled-label.result) c.args.end.loop_block _ _ _ c.schedule_loop.new.self.cx
          (FOROF c.block-head.result.id (maybe_of c.unless_scheduled-label.result) c.block-head.result.span (value_block_result_to_sequence (table_of c.args.table.words.now) first.value c.block-head.result.span) (value_block_result_to_sequence (table_of c.args.table.words.now) tested.value c.block-head.result.span)) c.loop_is_taken-taken.result
          ∙ rw (body.same, off.0, same_state c.unschedule.new.self c.close.new.self close.cx close.visits) refl);
      puts = λ origin out o. closes out _ close (parts_for_of out _ _ _ _ _ body.part) (sym (out_length o)) refl
          (quiet_out off.1.quiet (body.puts origin _ (tested.puts origin _ (first.puts origin _ (quiet_out sched.1.quiet o)))));
      says = record { count = refl; few = omega arith; there = next };
      whole = rw close.cx off.1.whole;
      numbers = omega (
        arith,
        sched.1,
        sched.1.quiet,
        first.spent.paid,
        first.spent.rises,
        first.spent.visits,
        first.spent.lines,
        kept c.schedule_loop.new.self c.visit_flat.new.self first.spent.cx,
        tested.spent.paid,
        tested.spent.rises,
        tested.spent.visits,
        tested.spent.lines,
        kept c.visit_flat.new.self c.visit_flat-2.new.self tested.spent.cx,
        body.numbers,
        off.1,
        off.1.quiet,
        close.rows,
        close.visits,
        close.lines,
        kept c.unschedule.new.self c.close.new.self close.cx,
      );
    })

-- ---- ForIn

pub visit_for_in-schedule_loop-requires-clause-room : goal.visit_for_in-schedule_loop-requires-clause-room
visit_for_in-schedule_loop-requires-clause-room t c = room_of c.requires.fine

pub visit_for_in-returns-in_err-schedule_loop : goal.visit_for_in-returns-in_err-schedule_loop
unfolding visit_terminal ◌>>=◌
visit_for_in-returns-in_err-schedule_loop t c =
    refuses _ _ _ c.from_residual.ensures
    (terminal_by _ _ _ _ _ c.requires.ends ∙ rw (← c.unless_scheduled-label.ensures.label, c.in_err-schedule_loop.ensures) refl)

pub visit_for_in-returns-in_err-visit_flat : goal.visit_for_in-returns-in_err-visit_flat
unfolding visit_terminal ◌>>=◌ context_of
visit_for_in-returns-in_err-visit_flat t c =
    refuses _ _ _ c.from_residual-in_err-visit_flat.ensures
    (terminal_by _ _ _ _ _ c.requires.ends ∙ rw (c.block-head.ensures.is_span, c.block-head.ensures.is_id, ← c.unless_scheduled-label.ensures.label, c.in_ok-schedule_loop.ensures.0, c.in_err-visit_flat.ensures) refl)

pub visit_for_in-returns-in_err-traverse_loop : goal.visit_for_in-returns-in_err-traverse_loop
unfolding visit_terminal ◌>>=◌ context_of table_of value_block_result_to_sequence
visit_for_in-returns-in_err-traverse_loop t c =
    let first = c.in_ok-visit_flat.ensures in
    let body = rw (spent_state c.schedule_loop.new.self c.visit_flat.new.self (first.spent.cx)) at c.in_err-traverse_loop.ensures in
    refuses _ _ _ c.from_residual-in_err-traverse_loop.ensures
    (terminal_by _ _ _ _ _ c.requires.ends ∙ rw (c.block-head.ensures.is_span, c.block-head.ensures.is_id, ← c.unless_scheduled-label.ensures.label, c.in_ok-schedule_loop.ensures.0, first.same, first.begun, ← c.loop_is_taken-taken.ensures)
    (loop_is c.args.table.words.now c.args.levels (around_of c.args.around.now) c.args.block (maybe_of c.unless_scheduled-label.result) c.args.end.loop_block _ _ _ c.schedule_loop.new.self.cx
    (FORIN c.block-head.result.id (maybe_of c.unless_scheduled-label.result) c.block-head.result.span (value_block_result_to_sequence (table_of c.args.table.words.now) first.value c.block-head.result.span)) c.loop_is_taken-taken.result ∙ rw body refl))

pub visit_for_in-returns-in_err-unschedule : goal.visit_for_in-returns-in_err-unschedule
unfolding visit_terminal ◌>>=◌ context_of table_of value_block_result_to_sequence
visit_for_in-returns-in_err-unschedule t c =
    let first = c.in_ok-visit_flat.ensures in
    let body = rw (spent_state c.schedule_loop.new.self c.visit_flat.new.self (first.spent.cx)) at c.in_ok-traverse_loop.ensures in
    refuses _ _ _ c.from_residual-in_err-unschedule.ensures
    (terminal_by _ _ _ _ _ c.requires.ends ∙ rw (c.block-head.ensures.is_span, c.block-head.ensures.is_id, ← c.unless_scheduled-label.ensures.label, c.in_ok-schedule_loop.ensures.0, first.same, first.begun, ← c.loop_is_taken-taken.ensures)
    (loop_is c.args.table.words.now c.args.levels (around_of c.args.around.now) c.args.block (maybe_of c.unless_scheduled-label.result) c.args.end.loop_block _ _ _ c.schedule_loop.new.self.cx
    (FORIN c.block-head.result.id (maybe_of c.unless_scheduled-label.result) c.block-head.result.span (value_block_result_to_sequence (table_of c.args.table.words.now) first.value c.block-head.result.span)) c.loop_is_taken-taken.result ∙ rw (body.same, c.in_err-unschedule.ensures) refl))

pub visit_for_in-close-requires-clause-lines : goal.visit_for_in-close-requires-clause-lines
visit_for_in-close-requires-clause-lines t c =
    let sched = c.in_ok-schedule_loop.ensures.1 in
    let first = c.in_ok-visit_flat.ensures in
    let off = c.in_ok-unschedule.ensures.1 in
    line_room c.args.self.now c.unschedule.new.self c.requires.fine off.whole
    (omega (arith, sched.quiet, sched.marks, first.spent.lines, kept c.schedule_loop.new.self c.visit_flat.new.self first.spent.cx, c.in_ok-traverse_loop.ensures.numbers, off.quiet, off.marks, c.requires.fine.lines))

pub visit_for_in-returns : goal.visit_for_in-returns
unfolding visit_terminal ◌>>=◌ context_of table_of value_block_result_to_sequence
visit_for_in-returns t c =
    let next = fallthrough_there c.unless_scheduled-label.result c.unless_scheduled-label.ensures.there c.requires.ends.named.2 in
    let sched = c.in_ok-schedule_loop.ensures in
    let first = c.in_ok-visit_flat.ensures in
    let body = rw (spent_state c.schedule_loop.new.self c.visit_flat.new.self (first.spent.cx)) at c.in_ok-traverse_loop.ensures in
    let off = c.in_ok-unschedule.ensures in
    let close = rw (c.or_none.ensures) at c.close.ensures in
    rw c.statement.ensures (record {
      part = some (FORIN c.block-head.result.id (maybe_of c.unless_scheduled-label.result) c.block-head.result.span (value_block_result_to_sequence (table_of c.args.table.words.now) first.value c.block-head.result.span) body.part);
      same = terminal_by _ _ _ _ _ c.requires.ends
          ∙ rw (c.block-head.ensures.is_span, c.block-head.ensures.is_id, ← c.unless_scheduled-label.ensures.label, c.in_ok-schedule_loop.ensures.0, first.same, first.begun, ← c.loop_is_taken-taken.ensures)
          (loop_is c.args.table.words.now c.args.levels (around_of c.args.around.now) c.args.block (maybe_of c.unless_scheduled-label.result) c.args.end.loop_block _ _ _ c.schedule_loop.new.self.cx
          (FORIN c.block-head.result.id (maybe_of c.unless_scheduled-label.result) c.block-head.result.span (value_block_result_to_sequence (table_of c.args.table.words.now) first.value c.block-head.result.span)) c.loop_is_taken-taken.result
          ∙ rw (body.same, off.0, same_state c.unschedule.new.self c.close.new.self close.cx close.visits) refl);
      puts = λ origin out o. closes out _ close (parts_for_in out _ _ _ _ body.part) (sym (out_length o)) refl
          (quiet_out off.1.quiet (body.puts origin _ (first.puts origin _ (quiet_out sched.1.quiet o))));
      says = record { count = refl; few = omega arith; there = next };
      whole = rw close.cx off.1.whole;
      numbers = omega (
        arith,
        sched.1,
        sched.1.quiet,
        first.spent.paid,
        first.spent.rises,
        first.spent.visits,
        first.spent.lines,
        kept c.schedule_loop.new.self c.visit_flat.new.self first.spent.cx,
        body.numbers,
        off.1,
        off.1.quiet,
        close.rows,
        close.visits,
        close.lines,
        kept c.unschedule.new.self c.close.new.self close.cx,
      );
    })

-- ---- a value terminal as a statement

pub visit_terminal-visit_value_statement-requires-clause-ends : goal.visit_terminal-visit_value_statement-requires-clause-ends
unfolding visit_terminal
visit_terminal-visit_value_statement-requires-clause-ends t c = value_ends _ c.in-Logical.ensures c.in-Logical.ensures.named.2 (λ t v tr around b cx. refl)

pub visit_terminal-visit_value_statement-requires-in-Ternary-clause-ends : goal.visit_terminal-visit_value_statement-requires-in-Ternary-clause-ends
unfolding visit_terminal
visit_terminal-visit_value_statement-requires-in-Ternary-clause-ends t c = value_ends _ c.in-Ternary.ensures c.in-Ternary.ensures.named.1 (λ t v tr around b cx. refl)

pub visit_terminal-visit_value_statement-requires-in-Optional-clause-ends : goal.visit_terminal-visit_value_statement-requires-in-Optional-clause-ends
unfolding visit_terminal
visit_terminal-visit_value_statement-requires-in-Optional-clause-ends t c = value_ends _ c.in-Optional.ensures c.in-Optional.ensures.named.2 (λ t v tr around b cx. refl)

pub visit_terminal-visit_value_statement-requires-in-Sequence-clause-ends : goal.visit_terminal-visit_value_statement-requires-in-Sequence-clause-ends
unfolding visit_terminal
visit_terminal-visit_value_statement-requires-in-Sequence-clause-ends t c = value_ends _ c.in-Sequence.ensures c.in-Sequence.ensures.named.1 (λ t v tr around b cx. refl)

-- ---- Switch

pub visit_switch-returns-in_err-label : goal.visit_switch-returns-in_err-label
unfolding visit_terminal ◌>>=◌
visit_switch-returns-in_err-label t c = refuses _ _ _ c.from_residual.ensures (terminal_by _ _ _ _ _ c.requires.ends ∙ rw c.in_err-label.ensures refl)

pub visit_switch-schedule_switch-requires-clause-room : goal.visit_switch-schedule_switch-requires-clause-room
visit_switch-schedule_switch-requires-clause-room t c = room_of c.requires.fine

pub visit_switch-returns-in_err-schedule_switch : goal.visit_switch-returns-in_err-schedule_switch
unfolding visit_terminal ◌>>=◌
visit_switch-returns-in_err-schedule_switch t c =
    refuses _ _ _ c.from_residual-in_err-schedule_switch.ensures (terminal_by _ _ _ _ _ c.requires.ends ∙ rw (c.in_ok-label.ensures.0, c.in_err-schedule_switch.ensures) refl)

pub visit_switch-returns-in_err-built : goal.visit_switch-returns-in_err-built
unfolding visit_terminal ◌>>=◌ context_of
visit_switch-returns-in_err-built t c =
    let own = schedule_ids (maybe_of c.in_ok-label.label) c.args.self.now.cx.next_schedule_id in
    refuses _ _ _ c.from_residual-in_err-built.ensures
    (terminal_by _ _ _ _ _ c.requires.ends ∙ rw (c.in_ok-label.ensures.0, c.in_ok-schedule_switch.ensures.0, rw (around_within c.rule.result _ c.args.around c.rule.ensures) at c.in_err-built.ensures own) refl)

pub visit_switch-unschedule_all-requires : goal.visit_switch-unschedule_all-requires
unfolding context_of
visit_switch-unschedule_all-requires t c =
    let built = c.in_ok-built.ensures [] in
    let id = c.args.self.now.cx.next_schedule_id in
    let before = ids_on (state c.args.self.now) in
    let there =
    last_there c.in_ok-label.label id built.part.1 before (state c.schedule_switch.new.self) (state c.traverse_cases.new.self)
    (switch_ids c.in_ok-label.label _ _ c.in_ok-schedule_switch.ensures.0) built.says.stack in
    record { whole = built.whole; there = rw c.entries_if.ensures (omega (arith, there, built.says.held, ids_length c.traverse_cases.new.self.tally.visits c.traverse_cases.new.self.cx)) }

pub visit_switch-overflow_add-built : goal.visit_switch-overflow_add-built
visit_switch-overflow_add-built t c =
    let built = c.in_ok-built.ensures [] in
    omega (arith, c.entries_if.ensures, entries_one c.in_ok-label.label, built.says.few, c.requires.ends.named.1, c.requires.ends.few)

pub visit_switch-close-requires-clause-rows : goal.visit_switch-close-requires-clause-rows
visit_switch-close-requires-clause-rows t c =
    let sched = c.in_ok-schedule_switch.ensures.1 in
    let built = c.in_ok-built.ensures [] in
    omega (arith, sched.visits, sched.quiet, built.numbers, c.unschedule_all.ensures.off.quiet, c.requires.fine.visits, c.requires.fine.rows)

pub visit_switch-close-requires-clause-lines : goal.visit_switch-close-requires-clause-lines
visit_switch-close-requires-clause-lines t c =
    let sched = c.in_ok-schedule_switch.ensures.1 in
    let off = c.unschedule_all.ensures.off in
    line_room c.args.self.now c.unschedule_all.new.self c.requires.fine off.whole
    (omega (arith, sched.quiet, sched.marks, (c.in_ok-built.ensures []).says.lines, off.quiet, off.marks, c.requires.fine.lines))

pub visit_switch-returns : goal.visit_switch-returns
unfolding visit_terminal ◌>>=◌ context_of
visit_switch-returns t c =
    let head = c.block-head.ensures in
    let label = c.in_ok-label.ensures in
    let next = fallthrough_there c.in_ok-label.label label.1 c.requires.ends.named.2 in
    let sched = c.in_ok-schedule_switch.ensures in
    let id = c.args.self.now.cx.next_schedule_id in
    let own = schedule_ids (maybe_of c.in_ok-label.label) id in
    let built = rw (around_within c.rule.result _ c.args.around c.rule.ensures) at c.in_ok-built.ensures own in
    let before = ids_on (state c.args.self.now) in
    let ids =
    last_are c.in_ok-label.label id built.part.1 before (state c.schedule_switch.new.self) (state c.traverse_cases.new.self)
    (switch_ids c.in_ok-label.label _ _ sched.0) built.says.stack in
    let same = rw (c.entries_if.ensures, ← built.says.held, ids) at c.unschedule_all.ensures.same in
    let off = c.unschedule_all.ensures.off in
    let close = rw (c.or_none.ensures, ← built.says.count) at c.close.ensures in
    rw c.statement.ensures (record {
      part = some (SWITCH c.args.end.test c.block-head.result.id (maybe_of c.in_ok-label.label) built.part.0);
      same = terminal_by _ _ _ _ _ c.requires.ends ∙ rw (label.0, sched.0, built.same, same, head.is_id, same_state c.unschedule_all.new.self c.close.new.self close.cx close.visits) refl;
      puts = λ origin out o. closes out _ close (parts_switch out _ _ _ built.part.0) (sym (out_length o)) refl (quiet_out off.quiet (built.puts origin out (quiet_out sched.1.quiet o)));
      says = record { count = refl; few = omega arith; there = next };
      whole = rw close.cx off.whole;
      numbers = omega (
        arith,
        sched.1,
        sched.1.quiet,
        built.numbers,
        built.says.lines,
        built.says.rows,
        built.says.id,
        off,
        off.quiet,
        close.rows,
        close.visits,
        close.lines,
        kept c.unschedule_all.new.self c.close.new.self close.cx,
        entries_one c.in_ok-label.label,
      );
    })

pub traverse_cases-loop-left-init : goal.traverse_cases-loop-left-init
traverse_cases-loop-left-init t c = none_built _ _ _ _ _ _ _ _ c.requires.fine

pub traverse_cases-returns-then-case-end : goal.traverse_cases-returns-then-case-end
unfolding traverse_cases ◌>>=◌ refuse_if context_of
traverse_cases-returns-then-case-end t c =
    let cases = c.loop-left.invariant in
    λ own. builds_refused _ _ _ _ _ _ _ _ cases own c.after.result
    (rw (
      cases_split _ c.loop-left-test.true (omega (arith, cases.within, c.requires.ends.named.1)) c.case-case.ensures,
      traverse_cases,
      sym c.is_scheduled.ensures ∙ c.if-is_scheduled.true,
      ne_eqb _ _ c.if-case-end.true,
      c.after.ensures,
    ) refl)

pub traverse_cases-loop-left-preserved-then-is_scheduled : goal.traverse_cases-loop-left-preserved-then-is_scheduled
unfolding traverse_cases ◌>>=◌ refuse_if
traverse_cases-loop-left-preserved-then-is_scheduled t c =
    let cases = c.loop-left.invariant in
    record {
      wrap = cases.wrap;
      put = cases.put;
      ids = cases.ids;
      same = λ own. builds_same _ _ _ _ _ _ _ _ cases own _
          (rw (
            cases_split _ c.loop-left-test.true (omega (arith, cases.within, c.requires.ends.named.1)) c.case-case.ensures,
            traverse_cases,
            sym c.is_scheduled.ensures ∙ c.if-is_scheduled.true,
            eq-eqb _ _ c.if-case-end.false,
          ) refl);
      puts = cases.puts;
      splits = cases.splits;
      counts = cases.counts;
      held = cases.held;
      stack = cases.stack;
      within = omega (arith, cases.within);
      fine = cases.fine;
      rises = cases.rises;
      rows = cases.rows;
      len = cases.len;
      id = cases.id;
      lines = cases.lines;
    }

pub traverse_cases-returns-in_err-traverse_block : goal.traverse_cases-returns-in_err-traverse_block
unfolding traverse_cases ◌>>=◌
traverse_cases-returns-in_err-traverse_block t c =
    let cases = c.loop-left.invariant in
    λ own. refuses _ _ _ c.from_residual.ensures (builds_refused _ _ _ _ _ _ _ _ cases own _
    (rw (
      cases_split _ c.loop-left-test.true (omega (arith, cases.within, c.requires.ends.named.1)) c.case-case.ensures,
      traverse_cases,
      sym c.is_scheduled.ensures ∙ c.if-is_scheduled.false,
      c.in_err-traverse_block.ensures,
    ) refl))

pub traverse_cases-returns-in_err-schedule : goal.traverse_cases-returns-in_err-schedule
unfolding traverse_cases ◌>>=◌
traverse_cases-returns-in_err-schedule t c =
    let cases = c.loop-left.invariant in
    let put = c.put.ensures in
    λ own. refuses _ _ _ c.from_residual-in_err-schedule.ensures (builds_refused _ _ _ _ _ _ _ _ cases own _
    (rw (
      cases_split _ c.loop-left-test.true (omega (arith, cases.within, c.requires.ends.named.1)) c.case-case.ensures,
      traverse_cases,
      sym c.is_scheduled.ensures ∙ c.if-is_scheduled.false,
      c.in_ok-traverse_block.ensures.same,
      ← same_state c.traverse_block.new.self c.put.new.self put.cx put.visits,
      rw c.block_id.ensures at c.in_err-schedule.ensures,
    ) refl))

pub traverse_cases-loop-left-preserved : goal.traverse_cases-loop-left-preserved
unfolding traverse_cases ◌>>=◌
traverse_cases-loop-left-preserved t c =
    let cases = c.loop-left.invariant in
    let body = c.in_ok-traverse_block.ensures in
    let put = c.put.ensures in
    let sched = c.in_ok-schedule.ensures in
    let same = kept c.traverse_block.new.self c.put.new.self put.cx in
    let test = c.case-case.result.test in
    let id = (state c.put.new.self).next_id in
    record {
      wrap = λ more. cases.wrap (CASE test body.part more);
      put = λ out. block_put (cases.put out) body.part ⊕ (row 11 test 0 0 0 0 ∷ []);
      ids = id ∷ cases.ids;
      same = λ own. builds_on _ _ _ _ _ _ _ _ cases own _ (CASE test body.part)
          (rw (
            cases_split _ c.loop-left-test.true (omega (arith, cases.within, c.requires.ends.named.1)) c.case-case.ensures,
            traverse_cases,
            sym c.is_scheduled.ensures ∙ c.if-is_scheduled.false,
            body.same,
            ← same_state c.traverse_block.new.self c.put.new.self put.cx put.visits,
            rw c.block_id.ensures at sched.0,
          ) refl);
      puts = λ origin out o. quiet_out sched.1.quiet (put.puts origin _ (body.puts origin _ (cases.puts origin out o)));
      splits = λ out more. cases.splits out (CASE test body.part more) ∙ case_put (cases.put out) test body.part more;
      counts = λ more. omega (arith, cases.counts (CASE test body.part more));
      held = omega (arith, cases.held);
      stack = scheduled_ids _ _ _ sched.0 ∙ ap (λ (z : List ℕ). id ∷ z) (ap ids_on (same_state c.traverse_block.new.self c.put.new.self put.cx put.visits) ∙ same_ids _ _ _ _ _ _ body.same ∙ cases.stack);
      within = omega (arith, cases.within, c.loop-left-test.true);
      fine = fine_case cases.fine body.numbers put same sched.1;
      rises = omega (arith, cases.rises, body.numbers, put.visits, sched.1);
      rows = omega (arith, cases.rows, body.numbers, put.rows, put.visits, sched.1, sched.1.quiet);
      len = omega (arith, cases.len, body.numbers, same, sched.1);
      id = omega (arith, cases.id, body.numbers, same, sched.1);
      lines = omega (arith, cases.lines, body.numbers, put.lines, same, sched.1, sched.1.quiet);
    }

pub traverse_cases-schedule-requires-clause-room : goal.traverse_cases-schedule-requires-clause-room
traverse_cases-schedule-requires-clause-room t c =
    let body = c.in_ok-traverse_block.ensures in
    let put = c.put.ensures in
    rw put.cx (room_built c.loop-left.invariant.fine body.whole body.numbers)

pub traverse_cases-returns : goal.traverse_cases-returns
traverse_cases-returns t c =
    let cases = c.loop-left.invariant in
    λ own. record {
      part = (cases.wrap no_cases, cases.ids);
      same = all_built _ _ _ _ _ _ _ _ cases own (omega (arith, c.loop-left-test.false));
      puts = λ origin out o. rw (cases.splits out no_cases, no_case_put) (cases.puts origin out o);
      says = record {
        count = omega (arith, cases.counts no_cases);
        held = cases.held;
        stack = cases.stack;
        lines = cases.lines;
        rows = cases.rows;
        id = cases.id;
        few = omega (arith, cases.within);
      };
      whole = cases.fine.whole;
      numbers = omega (arith, cases.fine.visits, cases.rises, cases.rows, cases.len, cases.id, cases.lines);
    }

pub visit_terminal-visit_switch-requires : goal.visit_terminal-visit_switch-requires
visit_terminal-visit_switch-requires t c = (omega arith, (c.requires.there, (c.in-Switch.ensures, c.requires.fine)))

pub visit_terminal-visit_for-requires : goal.visit_terminal-visit_for-requires
visit_terminal-visit_for-requires t c = (omega arith, (c.requires.there, (c.in-For.ensures, c.requires.fine)))

pub visit_terminal-visit_for_of-requires : goal.visit_terminal-visit_for_of-requires
visit_terminal-visit_for_of-requires t c = (omega arith, (c.requires.there, (c.in-ForOf.ensures, c.requires.fine)))

pub visit_terminal-visit_for_in-requires : goal.visit_terminal-visit_for_in-requires
visit_terminal-visit_for_in-requires t c = (omega arith, (c.requires.there, (c.in-ForIn.ensures, c.requires.fine)))
