-- `read_rows` gives `read_from`. A row out of range (`row_out`, 60) or without its parts (`row_missing`, 61) is refused; any other keeps the invariant
-- (`row_on`). After the last row the answer is whether one root is left (`rows_read`).
use Rattle.std.proofs.Common.{ap, not}
use Rattle.std.proofs.lemmas.Result.{err_from_is_err_and}
use borrow.Author.Tests.{not-true, not-false}
use Rattle.tree_check.proofs.ReadLaws.{reading_start, next_of_read, root_of_read, row_out, row_missing, row_on, rows_read}
use Rattle.tree_check.proofs.read_rows.Goals as goal

pub loop-row-init : goal.loop-row-init
loop-row-init c = rw c.requires.zeros (reading_start _ _)

pub returns-then-not-in_range : goal.returns-then-not-in_range
returns-then-not-in_range c = row_out _ _ _ _ c.loop-row.invariant c.loop-row-test.true c.in_range.ensures (not-true _ (ap not c.if-not-in_range.true))

pub returns-in_err-first : goal.returns-in_err-first
returns-in_err-first c =
    let p = err_from_is_err_and c.from_residual.result c.from_residual.ensures.1 in
    rw (p.1, p.2)
    (row_missing _ _ _ _ c.loop-row.invariant c.loop-row-test.true c.in_range.ensures (not-false _ (ap not c.if-not-in_range.false))
    (next_of_read c.read_so_far.ensures.words c.read_so_far.ensures.begin c.read_so_far.ensures.count c.next_begin.ensures) c.in_err-first.ensures.value)

pub loop-row-preserved : goal.loop-row-preserved
loop-row-preserved c =
    row_on _ _ _ _ c.loop-row.invariant c.loop-row-test.true c.in_range.ensures (not-false _ (ap not c.if-not-in_range.false))
    (next_of_read c.read_so_far.ensures.words c.read_so_far.ensures.begin c.read_so_far.ensures.count c.next_begin.ensures)
    c.requires.rows_bound c.requires.tree_len c.in_ok-first.ensures.value

pub returns-then-one_root : goal.returns-then-one_root
returns-then-one_root c =
    rows_read _ _ _ _ c.loop-row.invariant c.loop-row-test.false
    (root_of_read c.read_so_far-2.ensures.words c.read_so_far-2.ensures.begin c.read_so_far-2.ensures.count c.if-one_root.ensures)

pub returns-else-one_root : goal.returns-else-one_root
returns-else-one_root c =
    rows_read _ _ _ _ c.loop-row.invariant c.loop-row-test.false
    (root_of_read c.read_so_far-2.ensures.words c.read_so_far-2.ensures.begin c.read_so_far-2.ensures.count c.if-one_root.ensures)
