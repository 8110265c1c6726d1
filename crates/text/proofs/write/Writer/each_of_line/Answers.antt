use Rattle.std.proofs.Common.{sym, ◌∙◌}
use Rattle.text.proofs.WriterLaws.{line_more, line_end}
use Rattle.text.proofs.write.Writer.each_of_line.Goals as goal

pub loop-i-preserved : goal.loop-i-preserved
loop-i-preserved c = rw (c.byte.ensures, c.ending_byte.ensures, c.number.ensures) (sym (line_more _ _ _ c.loop-i-test.true) ∙ c.loop-i.invariant)

pub returns : goal.returns
returns c = sym (line_end _ _ _ c.loop-i-test.false) ∙ c.loop-i.invariant
