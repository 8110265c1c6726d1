use Rattle.text.proofs.WriterLaws.{written_append}
use Rattle.text.proofs.write.Writer.put_two.Goals as goal

pub returns : goal.returns
returns c =
    rw (written_append, written_append, written_append, written_append, ← c.put_bytes.ensures.put, ← c.put_short.ensures.put, ← c.put_bytes-2.ensures.put, ← c.put_short-2.ensures.put)
    c.put_bytes-3.ensures.put
