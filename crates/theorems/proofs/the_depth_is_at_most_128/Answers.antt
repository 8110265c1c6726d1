use Rattle.definition.proofs.Bounds.{depth_most}
use Rattle.definition.proofs.Checked.{ranged}
use Rattle.table.specs.Table.{table_of}
use Rattle.theorems.proofs.the_depth_is_at_most_128.Goals as goal

pub returns : goal.returns
returns c = λ rule words passed. depth_most rule (table_of words) (ranged words passed).few
