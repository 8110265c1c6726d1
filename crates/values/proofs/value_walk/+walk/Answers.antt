-- The nine functions of the cycle `walk` (`values::value_walk`) meet their contracts: the outcome is the definition's, and the buffer holds the rows
-- of its value (`Met`, or `TestMet` for a test block). There is an answer for each end of a function at which auto finds none.
-- Each names the definition's branch at that end (WalkLaws; `defined` puts it in) and then follows the definition's steps (MetLaws): `goes` past a call
-- that gave a value, `pass` where a call refused, `stops` where the function itself does. Where a value is made of others, the record names it and puts
-- its row behind theirs (`row_kept`).
use Prim.Native.Nat.{◌+◌}
use Rattle.definition.specs.Result.{ok}
use Rattle.definition.specs.Tree.{LOGICAL, SEQ, OPTIONAL, COND}
use Rattle.definition.specs.Value.{visit_value_block_terminal, single_instruction, then_fallthrough, instructions_of, visit_test_block}
use Rattle.table.proofs.ColumnLaws.{head_rows}
use Rattle.table.specs.Table.{table_of, rows_from}
use Rattle.values.proofs.EndingLaws.{OtherEnd, NoValue}
use Rattle.values.proofs.MetLaws.{row_kept, handed_on, pass, goes, defined, stops, moved, met_wrap, count_rows, found_seq}
use Rattle.values.proofs.StackLaws.{push_instructions_of}
use Rattle.values.proofs.WalkLaws.{terminal_by, maybe_throw_missing, maybe_throw_own, maybe_throw_visits, ended_branch, ended_other, visit_30}
use Rattle.values.proofs.WalkLaws.{visit_10, visit_23, visit_begun, at_goto, at_branch, at_other, terminal_label, terminal_maybe_throw, terminal_other}
use borrow.Author.Rules.{rules}
use Rattle.values.proofs.value_walk.+walk.Goals as goal
use Rattle.values.specs.Stack.{push_value}
use Rattle.values.specs.declared.refusal.Refusal.TheVariants.{MissingBlock, FallthroughReached, TestNotEndedByBranch, LabelInValueBlock, OtherKindInValueBlock, TooDeep, MaybeThrowInValueTerminal}
use mathlib.Core.Path.{refl, ap, sym, ◌∙◌}
use native.Mathlib.Omega.{arith}

pub logical_value-returns-in_err-tested : goal.logical_value-returns-in_err-tested
unfolding visit_value_block_terminal
logical_value-returns-in_err-tested t c =
    defined (terminal_by _ _ _ _ c.requires.ends c.block-head.ensures)
    (pass _ (handed_on c.from_residual.ensures) c.in_err-tested.ensures (omega arith))

pub logical_value-returns-in_err-left : goal.logical_value-returns-in_err-left
unfolding visit_value_block_terminal
logical_value-returns-in_err-left t c =
    let put = c.put_instr-instr.ensures in
    let test = c.in_ok-tested.ensures.met in
    let left = rw put.visits at c.in_err-left.ensures in
    defined (terminal_by _ _ _ _ c.requires.ends c.block-head.ensures)
    (goes _ test (pass _ (handed_on c.from_residual-in_err-left.ensures) left (omega (arith, test.numbers, put.visits))))

pub logical_value-returns-in_err-right : goal.logical_value-returns-in_err-right
unfolding visit_value_block_terminal
logical_value-returns-in_err-right t c =
    let sequence = c.put_row-seq.ensures in
    let put = c.put_instr-instr.ensures in
    let test = c.in_ok-tested.ensures.met in
    let left = rw put.visits at c.in_ok-left.ensures in
    let right = rw sequence.visits at c.in_err-right.ensures in
    defined (terminal_by _ _ _ _ c.requires.ends c.block-head.ensures)
    (goes _ test (goes _ left (pass _ (handed_on c.from_residual-in_err-right.ensures) right (omega (arith, test.numbers, left.numbers, put.visits, sequence.visits)))))

pub logical_value-returns : goal.logical_value-returns
unfolding visit_value_block_terminal push_value
logical_value-returns t c =
    let row = c.put_row-logical.ensures in
    let sequence = c.put_row-seq.ensures in
    let put = c.put_instr-instr.ensures in
    let test = c.in_ok-tested.ensures.met in
    let left = rw put.visits at c.in_ok-left.ensures in
    let right = rw sequence.visits at c.in_ok-right.ensures in
    let tested = c.in_ok-tested.tested.test in
    defined (terminal_by _ _ _ _ c.requires.ends c.block-head.ensures)
    (goes _ test (goes _ left (goes _ right
    (rw (← row.visits, c.loading.ensures) (record {
      value = LOGICAL _ (SEQ (single_instruction tested.id tested.place _ test.value) _ left.value) right.value;
      same = refl;
      found = record {
        held = λ stack h. row_kept row _ (right.found.held _ (row_kept sequence _ (left.found.held _ (row_kept put _ (test.found.held stack h)))));
        block = c.requires.ends.named.2;
        place = left.found.place;
        ends = record { sequences = refl; instructions = refl; loaded = refl; there = tt };
        more = omega (arith, test.found.more, left.found.more, right.found.more, put.rows, sequence.rows, row.rows);
      };
      numbers = omega (arith, test.numbers, left.numbers, right.numbers, put.rows, put.visits, sequence.rows, sequence.visits, row.rows, row.visits);
    })))))

pub maybe_throw_value-returns-then-is_absent : goal.maybe_throw_value-returns-then-is_absent
maybe_throw_value-returns-then-is_absent t c =
    defined (maybe_throw_missing _ _ _ _ _ _ c.requires.ends c.is_absent.ensures c.if-is_absent.true)
    (stops (MissingBlock _) _ c.after.ensures (omega (arith, c.requires.fit.visits)))

pub maybe_throw_value-returns-then-is_empty_goto : goal.maybe_throw_value-returns-then-is_empty_goto
maybe_throw_value-returns-then-is_empty_goto t c =
    defined (maybe_throw_own _ _ _ _ _ _ c.requires.ends c.is_absent.ensures c.if-is_absent.false c.is_empty_goto.ensures c.if-is_empty_goto.true)
    (moved c.extract_or_refuse.ensures refl (omega arith) (omega arith))

pub maybe_throw_value-returns-in_err-value : goal.maybe_throw_value-returns-in_err-value
maybe_throw_value-returns-in_err-value t c =
    defined (maybe_throw_visits _ _ _ _ _ _ c.requires.ends c.is_absent.ensures c.if-is_absent.false
    c.is_empty_goto.ensures c.block-head.ensures c.if-is_empty_goto.false)
    (pass _ (handed_on c.from_residual.ensures) c.in_err-value.ensures (omega arith))

pub maybe_throw_value-returns : goal.maybe_throw_value-returns
maybe_throw_value-returns t c =
    let v = c.in_ok-value.ensures in
    let own = c.block-head.ensures in
    let w = c.wrap_with_sequence.ensures in
    defined (maybe_throw_visits _ _ _ _ _ _ c.requires.ends c.is_absent.ensures c.if-is_absent.false
    c.is_empty_goto.ensures own c.if-is_empty_goto.false)
    (met_wrap _ _ c.put_instructions-rows.ensures v w (omega (arith, w.most, w.visits, v.numbers, c.put_instructions-rows.ensures.more, own.there, own.few)))

pub optional_value-returns-in_err-tested : goal.optional_value-returns-in_err-tested
unfolding visit_value_block_terminal
optional_value-returns-in_err-tested t c =
    defined (terminal_by _ _ _ _ c.requires.ends c.block-head.ensures)
    (pass _ (handed_on c.from_residual.ensures) c.in_err-tested.ensures (omega arith))

pub optional_value-returns-in_err-inner : goal.optional_value-returns-in_err-inner
unfolding visit_value_block_terminal
optional_value-returns-in_err-inner t c =
    let put = c.put_instr-instr.ensures in
    let test = c.in_ok-tested.ensures.met in
    let inner = rw put.visits at c.in_err-inner.ensures in
    defined (terminal_by _ _ _ _ c.requires.ends c.block-head.ensures)
    (goes _ test (pass _ (handed_on c.from_residual-in_err-inner.ensures) inner (omega (arith, test.numbers, put.visits))))

pub optional_value-returns : goal.optional_value-returns
unfolding visit_value_block_terminal push_value
optional_value-returns t c =
    let row = c.put_row-optional.ensures in
    let sequence = c.put_row-seq.ensures in
    let put = c.put_instr-instr.ensures in
    let test = c.in_ok-tested.ensures.met in
    let inner = rw put.visits at c.in_ok-inner.ensures in
    let tested = c.in_ok-tested.tested.test in
    defined (terminal_by _ _ _ _ c.requires.ends c.block-head.ensures)
    (goes _ test (goes _ inner
    (rw (← sequence.visits, ← row.visits, c.in_ok-tested.ensures.span, c.loading.ensures) (record {
      value = OPTIONAL _ (SEQ (single_instruction tested.id tested.place _ test.value) _ inner.value);
      same = refl;
      found = record {
        held = λ stack h. row_kept row _ (row_kept sequence _ (inner.found.held _ (row_kept put _ (test.found.held stack h))));
        block = c.requires.ends.named.2;
        place = inner.found.place;
        ends = record { sequences = refl; instructions = refl; loaded = refl; there = tt };
        more = omega (arith, test.found.more, inner.found.more, put.rows, sequence.rows, row.rows);
      };
      numbers = omega (arith, test.numbers, inner.numbers, put.rows, put.visits, sequence.rows, sequence.visits, row.rows, row.visits);
    }))))

pub sequence_value-returns-in_err-inner : goal.sequence_value-returns-in_err-inner
unfolding visit_value_block_terminal
sequence_value-returns-in_err-inner t c =
    defined (terminal_by _ _ _ _ c.requires.ends c.block-head.ensures)
    (pass _ (handed_on c.from_residual.ensures) c.in_err-inner.ensures (omega arith))

pub sequence_value-returns : goal.sequence_value-returns
unfolding visit_value_block_terminal
sequence_value-returns t c =
    let inner = c.in_ok-inner.ensures in
    let found = inner.found in
    defined (terminal_by _ _ _ _ c.requires.ends c.block-head.ensures)
    (goes _ inner (record {
      value = inner.value;
      same = refl;
      found = record { held = found.held; block = c.requires.ends.named.1; place = found.place; ends = found.ends; more = found.more };
      numbers = omega (arith, inner.numbers);
    }))

pub ternary_value-returns-in_err-tested : goal.ternary_value-returns-in_err-tested
unfolding visit_value_block_terminal
ternary_value-returns-in_err-tested t c =
    defined (terminal_by _ _ _ _ c.requires.ends c.block-head.ensures)
    (pass _ (handed_on c.from_residual.ensures) c.in_err-tested.ensures (omega arith))

pub ternary_value-returns-in_err-consequent : goal.ternary_value-returns-in_err-consequent
unfolding visit_value_block_terminal
ternary_value-returns-in_err-consequent t c =
    let test = c.in_ok-tested.ensures.met in
    defined (terminal_by _ _ _ _ c.requires.ends c.block-head.ensures)
    (goes _ test (pass _ (handed_on c.from_residual-in_err-consequent.ensures) c.in_err-consequent.ensures (omega (arith, test.numbers))))

pub ternary_value-returns-in_err-alternate : goal.ternary_value-returns-in_err-alternate
unfolding visit_value_block_terminal
ternary_value-returns-in_err-alternate t c =
    let test = c.in_ok-tested.ensures.met in
    let one = c.in_ok-consequent.ensures in
    defined (terminal_by _ _ _ _ c.requires.ends c.block-head.ensures)
    (goes _ test (goes _ one (pass _ (handed_on c.from_residual-in_err-alternate.ensures) c.in_err-alternate.ensures (omega (arith, test.numbers, one.numbers)))))

pub ternary_value-returns : goal.ternary_value-returns
unfolding visit_value_block_terminal push_value
ternary_value-returns t c =
    let row = c.put_row-cond.ensures in
    let test = c.in_ok-tested.ensures.met in
    let one = c.in_ok-consequent.ensures in
    let other = c.in_ok-alternate.ensures in
    defined (terminal_by _ _ _ _ c.requires.ends c.block-head.ensures)
    (goes _ test (goes _ one (goes _ other
    (rw (← row.visits, c.loading.ensures) (record {
      value = COND test.value one.value other.value;
      same = refl;
      found = record {
        held = λ stack h. row_kept row _ (other.found.held _ (one.found.held _ (test.found.held stack h)));
        block = c.requires.ends.named.1;
        place = one.found.place;
        ends = record { sequences = refl; instructions = refl; loaded = refl; there = tt };
        more = omega (arith, test.found.more, one.found.more, other.found.more, row.rows);
      };
      numbers = omega (arith, test.numbers, one.numbers, other.numbers, row.rows, row.visits);
    })))))

pub then_fallthrough-returns-in_err-init : goal.then_fallthrough-returns-in_err-init
unfolding then_fallthrough
then_fallthrough-returns-in_err-init t c = pass _ (handed_on c.from_residual.ensures) c.in_err-init.ensures (omega arith)

pub then_fallthrough-returns-in_err-value : goal.then_fallthrough-returns-in_err-value
unfolding then_fallthrough
then_fallthrough-returns-in_err-value t c =
    let row = c.put_instr-instr.ensures in
    let init = c.in_ok-init.ensures in
    let v = rw row.visits at c.in_err-value.ensures in
    goes _ init (pass _ (handed_on c.from_residual-in_err-value.ensures) v (omega (arith, init.numbers, row.visits)))

pub then_fallthrough-returns : goal.then_fallthrough-returns
unfolding then_fallthrough push_value
then_fallthrough-returns t c =
    let row = c.put_instr-instr.ensures in
    let init = c.in_ok-init.ensures in
    let v = rw row.visits at c.in_ok-value.ensures in
    let w = c.wrap_with_sequence.ensures in
    let init_by = c.in_ok-init.init in
    let rows = c.put_instructions-rows.ensures in
    let own = c.block-head.ensures in
    let table = table_of c.args.table.words.now in
    let first = c.block-head.result.first in
    let count = c.block-head.result.count in
    let single = single_instruction init_by.id init_by.place c.args.span init.value in
    rw (head_rows own)
    (goes _ init (goes _ v (record {
      value = SEQ (instructions_of table (rows_from first count) single) c.in_ok-value.value.id v.value;
      same = ap ok (sym (w.same _));
      found = found_seq {x = record { rows = c.put_instr-instr.result.rows; visits = init_by.tally.visits }} (instructions_of table (rows_from first count) single) (count + 1)
          (count_rows table first count single) (λ e. omega arith)
          (λ stack h. rw (push_instructions_of table (rows_from first count) single stack) (row_kept row _ (init.found.held _ (rows.kept stack h))))
          (omega (arith, row.rows, init.found.more, rows.more)) v.found w;
      numbers = omega (arith, w.most, w.visits, v.numbers, init.numbers, row.rows, row.visits, rows.more, own.there, own.few);
    })))

pub visit_test_block-returns-in_err-test : goal.visit_test_block-returns-in_err-test
unfolding visit_test_block
visit_test_block-returns-in_err-test t c = rw (handed_on c.from_residual.ensures) (pass _ refl c.in_err-test.ensures (omega arith))

pub visit_test_block-returns-in_default : goal.visit_test_block-returns-in_default
unfolding visit_test_block
visit_test_block-returns-in_default t c =
    let v = c.in_ok-test.ensures in
    let ended = ended_other _ _ _ c.terminal.result c.terminal.ensures c.in_default.not-Branch in
    goes _ v (defined ended (stops (TestNotEndedByBranch _) _ c.after.ensures (omega (arith, v.numbers))))

pub visit_test_block-returns : goal.visit_test_block-returns
unfolding visit_test_block
visit_test_block-returns t c =
    let v = c.in_ok-test.ensures in
    let branch = c.in-Branch.ensures in
    record {
      met = goes _ v (defined (ended_branch _ _ _ branch) (record { value = v.value; same = refl; found = v.found; numbers = v.numbers }));
      consequent = branch.named.1;
      alternate = branch.named.2;
      span = sym c.span.ensures;
    }

pub visit_value_block-returns-then-levels-eq0 : goal.visit_value_block-returns-then-levels-eq0
visit_value_block-returns-then-levels-eq0 t c =
    let fit = c.requires in
    defined (visit_30 fit _ _ _ c.if-levels-eq0.true) (stops (TooDeep _) _ c.after.ensures (omega (arith, fit.visits)))

pub visit_value_block-returns-then-is_absent : goal.visit_value_block-returns-then-is_absent
visit_value_block-returns-then-is_absent t c =
    let fit = c.requires in
    defined (visit_10 fit _ _ _ c.if-levels-eq0.false (omega arith) c.is_absent.ensures c.if-is_absent.true)
    (stops (MissingBlock _) _ c.after-then-is_absent.ensures (omega (arith, fit.visits)))

pub visit_value_block-returns-then-eq : goal.visit_value_block-returns-then-eq
visit_value_block-returns-then-eq t c =
    let fit = c.requires in
    defined (visit_23 fit _ _ _ c.if-levels-eq0.false (omega arith) c.is_absent.ensures c.if-is_absent.false (sym c.eq.ensures ∙ c.if-eq.true))
    (stops (FallthroughReached _) _ c.after-then-eq.ensures (omega (arith, fit.visits)))

pub visit_value_block-returns-in-Goto : goal.visit_value_block-returns-in-Goto
visit_value_block-returns-in-Goto t c =
    visit_begun c.requires _ _ _ c.if-levels-eq0.false (omega arith) c.is_absent.ensures c.if-is_absent.false (sym c.eq.ensures ∙ c.if-eq.false)
    (defined (at_goto _ _ _ _ _ _ c.in-Goto.ensures) c.extract_or_refuse.ensures) (omega arith)

pub visit_value_block-returns-in-Branch : goal.visit_value_block-returns-in-Branch
visit_value_block-returns-in-Branch t c =
    visit_begun c.requires _ _ _ c.if-levels-eq0.false (omega arith) c.is_absent.ensures c.if-is_absent.false (sym c.eq.ensures ∙ c.if-eq.false)
    (defined (at_branch _ _ _ _ _ _ c.in-Branch.ensures) c.branch_value.ensures) (omega arith)

pub visit_value_block-returns-in-MaybeThrow : goal.visit_value_block-returns-in-MaybeThrow
visit_value_block-returns-in-MaybeThrow t c =
    visit_begun c.requires _ _ _ c.if-levels-eq0.false (omega arith) c.is_absent.ensures c.if-is_absent.false (sym c.eq.ensures ∙ c.if-eq.false)
    c.maybe_throw_value.ensures (omega arith)

pub visit_value_block_terminal-returns-in-Label : goal.visit_value_block_terminal-returns-in-Label
visit_value_block_terminal-returns-in-Label t c =
    defined (terminal_label _ _ _ _ c.in-Label.ensures) (stops (LabelInValueBlock _) _ c.after.ensures (omega (arith, c.requires.visits)))

pub visit_value_block_terminal-returns-in-MaybeThrow : goal.visit_value_block_terminal-returns-in-MaybeThrow
visit_value_block_terminal-returns-in-MaybeThrow t c =
    defined (terminal_maybe_throw _ _ _ _ c.in-MaybeThrow.ensures) (stops (MaybeThrowInValueTerminal _) _ c.after-in-MaybeThrow.ensures (omega (arith, c.requires.visits)))

pub visit_value_block-returns-in-Absent : goal.visit_value_block-returns-in-Absent
visit_value_block-returns-in-Absent t c =
    let other : OtherEnd c.terminal.result = record { not_goto = search rules; not_branch = search rules; not_maybe_throw = search rules } in
    visit_begun c.requires _ _ _ c.if-levels-eq0.false (omega arith) c.is_absent.ensures c.if-is_absent.false (sym c.eq.ensures ∙ c.if-eq.false)
    (defined (at_other _ _ _ _ _ _ c.terminal.result c.terminal.ensures other) c.then_fallthrough.ensures) (omega arith)

pub visit_value_block_terminal-returns-in-Absent : goal.visit_value_block_terminal-returns-in-Absent
visit_value_block_terminal-returns-in-Absent t c =
    let none : NoValue c.terminal.result = record {
      not_logical = search rules;
      not_ternary = search rules;
      not_optional = search rules;
      not_label = search rules;
      not_sequence = search rules;
      not_maybe_throw = search rules;
    } in
    defined (terminal_other _ _ _ _ c.terminal.result c.terminal.ensures none) (stops (OtherKindInValueBlock _) _ c.after-in-Absent.ensures (omega (arith, c.requires.visits)))
