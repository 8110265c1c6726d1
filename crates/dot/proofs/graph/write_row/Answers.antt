-- `write_row` writes a line for each block that the row names: a step of the first loop names one case more (`cases_next`), a step of the second one block more
-- (`present_next`). `names_more` puts each line behind those written, and at the end the second loop's lines behind the first's.
use Rattle.std.proofs.Common.{◌≡◌, length, arith}
use lib.Seq.{take_all}
use Rattle.text.specs.Writer.{written}
use Rattle.table.proofs.NamedLaws.{cases_next, present_next}
use Rattle.dot.proofs.DotLaws.{no_line, one_line, names_more}
use Rattle.dot.proofs.graph.write_row.Goals as goal

pub loop-k-init : goal.loop-k-init
unfolding written
loop-k-init c = rw (no_line c.args.row)

pub case-requires : goal.case-requires
case-requires c = omega (arith, c.loop-k-test.true, c.named-named.ensures.within)

pub loop-k-preserved : goal.loop-k-preserved
loop-k-preserved c =
    rw (cases_next _ _ c.loop-k.k (omega (arith, c.named-named.ensures.within, c.loop-k-test.true)) c.case.ensures, names_more, ← c.loop-k.invariant, one_line) c.write_line.ensures

pub loop-block-init : goal.loop-block-init
unfolding written
loop-block-init c = rw (no_line c.args.row)

pub loop-block-preserved : goal.loop-block-preserved
loop-block-preserved c =
    let five : length c.named-named.result.blocks ≡ 5 = search in
    rw (present_next c.named-named.result.blocks c.loop-block.block-index (omega (arith, five, c.loop-block-test.true)), names_more, ← c.loop-block.invariant) c.write_if.ensures

pub returns : goal.returns
returns c =
    let five : length c.named-named.result.blocks ≡ 5 = search in
    let cases : c.loop-k.k ≡ c.named-named.result.cases = omega (arith, c.loop-k-test.false, c.loop-k.auto.k-end) in
    let blocks = take_all c.loop-block.block-index c.named-named.result.blocks (omega (arith, five, c.loop-block-test.false)) in
    rw (c.named-named.ensures.are, names_more, ← (rw cases at c.loop-k.invariant)) (rw blocks at c.loop-block.invariant)
