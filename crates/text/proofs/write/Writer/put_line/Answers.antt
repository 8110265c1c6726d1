use Rattle.std.proofs.Common.{sym, ◌∙◌, arith}
use Rattle.text.proofs.WriterLaws.{line_more, line_end}
use Rattle.text.proofs.write.Writer.put_line.Goals as goal

pub put_number-requires : goal.put_number-requires
put_number-requires c = let (_, places) = c.loop-i.invariant in omega (arith, c.requires, places, c.loop-i-test.true)

pub put-requires : goal.put-requires
put-requires c = let (_, places) = c.loop-i.invariant in omega (arith, c.requires, places, c.loop-i-test.true, c.put_number.ensures.left)

pub loop-i-preserved : goal.loop-i-preserved
loop-i-preserved c =
    let (I, places) = c.loop-i.invariant in (
      rw (c.put.ensures.put, c.ending_byte.ensures, c.put_number.ensures.put) (sym (line_more _ _ _ c.loop-i-test.true) ∙ I),
      omega (arith, places, c.put.ensures.left, c.put_number.ensures.left),
    )

pub returns : goal.returns
returns c = let (I, _) = c.loop-i.invariant in sym (line_end _ _ _ c.loop-i-test.false) ∙ I
