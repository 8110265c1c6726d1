-- `write_row` writes the old block's row with the blocks that it names renamed. A step puts one column, renamed where the terminal's code names a block there
-- (`row_put`); after eleven columns the row is whole (`row_whole`).
use Rattle.std.proofs.Common.{sym, ap, ◌∙◌, arith, length-set}
use Rattle.table.specs.Table.{code_of}
use Rattle.table.proofs.BlockLaws.{code_at_lem}
use Rattle.order.proofs.WriteLaws.{sizes, row_put, row_whole}
use Rattle.order.proofs.write.write_row.Goals as goal

pub bounds-table-begin : goal.bounds-table-begin
bounds-table-begin c = let s = sizes c.args.table.promise in omega (arith, c.requires.block_bound, c.loop-k-test.true)

pub loop-k-preserved : goal.loop-k-preserved
loop-k-preserved c =
    let (long, I) = c.loop-k.invariant in
    let code = ap code_of (sym c.terminal.ensures.is) ∙ code_at_lem _ _ c.args.table.promise c.requires.block_bound in
    let value = rw (c.named_columns-columns.ensures, code) at c.number_if.ensures in
    (length-set _ _ _ ∙ long, row_put _ _ _ _ _ long I c.loop-k-test.true value)

pub returns : goal.returns
returns c = row_whole _ _ _ _ _ c.loop-k.invariant.0 c.loop-k.invariant.1 c.loop-k-test.false
