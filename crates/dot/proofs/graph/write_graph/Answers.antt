use Rattle.text.proofs.WriterLaws.{written_append}
use Rattle.dot.specs.Dot.{graph_text}
use Rattle.dot.proofs.graph.write_graph.Goals as goal

pub returns : goal.returns
unfolding graph_text
returns c = rw (written_append, written_append, ← c.bytes.ensures, ← c.write_rows.ensures) c.bytes-2.ensures
