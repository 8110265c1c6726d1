use Rattle.text.specs.Writer.{written}
use Rattle.dot.proofs.DotLaws.{no_line, one_line}
use Rattle.dot.proofs.graph.write_if.Goals as goal

pub returns-in-Some : goal.returns-in-Some
returns-in-Some c = rw (c.in-Some.is, one_line) c.write_line.ensures

pub returns-in_default : goal.returns-in_default
unfolding written
returns-in_default c = rw (c.in_default.is, no_line)
