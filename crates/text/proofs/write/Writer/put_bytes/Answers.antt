use Rattle.std.proofs.Common.{sym, ◌∙◌, arith}
use Rattle.text.proofs.WriterLaws.{bytes_more, bytes_done}
use Rattle.text.proofs.write.Writer.put_bytes.Goals as goal

pub put-requires : goal.put-requires
put-requires c = let (_, places) = c.loop-byte.invariant in omega (arith, c.requires, places, c.loop-byte-test.true)

pub loop-byte-preserved : goal.loop-byte-preserved
loop-byte-preserved c =
    let (I, places) = c.loop-byte.invariant in
    (rw c.put.ensures.put (sym (bytes_more _ _ _ c.loop-byte-test.true) ∙ I), omega (arith, places, c.put.ensures.left))

pub returns : goal.returns
returns c =
    let (I, places) = c.loop-byte.invariant in
    record { put = sym (bytes_done _ _ _ c.loop-byte-test.false) ∙ I; left = omega (arith, places, c.loop-byte-test.false, c.loop-byte.auto.byte-index-end) }
