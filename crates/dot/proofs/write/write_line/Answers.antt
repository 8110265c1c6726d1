use Rattle.dot.specs.Dot.{line_text}
use Rattle.dot.proofs.write.write_line.Goals as goal

pub returns : goal.returns
unfolding line_text
returns c = c.two_numbers.ensures
