use Rattle.text.proofs.WriterLaws.{written_append}
use Rattle.convert.proofs.written_tables.write_part.Goals as goal

pub returns : goal.returns
returns c = rw (written_append, ← c.bytes.ensures) c.rows.ensures
