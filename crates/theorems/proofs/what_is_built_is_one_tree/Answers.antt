use Rattle.definition.proofs.TreeInBuffer.{one_tree}
use Rattle.theorems.proofs.what_is_built_is_one_tree.Goals as goal

pub returns : goal.returns
returns c = one_tree
