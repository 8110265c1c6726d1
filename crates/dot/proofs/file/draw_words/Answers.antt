use Rattle.dot.proofs.DrawingLaws.{holding}
use Rattle.dot.proofs.file.draw_words.Goals as goal

pub print-requires-clause-holding : goal.print-requires-clause-holding
print-requires-clause-holding c = rw (c.dot.ensures, c.dot.auto.text) (holding _ _)
