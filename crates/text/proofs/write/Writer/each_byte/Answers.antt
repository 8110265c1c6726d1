use Rattle.std.proofs.Common.{sym, ◌∙◌}
use Rattle.text.proofs.WriterLaws.{bytes_more, bytes_done}
use Rattle.text.proofs.write.Writer.each_byte.Goals as goal

pub loop-byte-preserved : goal.loop-byte-preserved
loop-byte-preserved c = rw c.byte.ensures (sym (bytes_more _ _ _ c.loop-byte-test.true) ∙ c.loop-byte.invariant)

pub returns : goal.returns
returns c = sym (bytes_done _ _ _ c.loop-byte-test.false) ∙ c.loop-byte.invariant
