use Rattle.text.proofs.WriterLaws.{written_append}
use Rattle.text.proofs.write.Writer.each_of_two.Goals as goal

pub returns : goal.returns
returns c =
    rw (written_append, written_append, written_append, written_append, ← c.bytes.ensures, ← c.number.ensures, ← c.bytes-2.ensures, ← c.number-2.ensures) c.bytes-3.ensures
