use Rattle.convert.proofs.PlacedLaws.{read_told}
use Rattle.convert.proofs.table_read.table_read.Goals as goal

pub returns : goal.returns
returns c = read_told _ _ _ _ _ c.read.ensures (c.tell.ensures _)
