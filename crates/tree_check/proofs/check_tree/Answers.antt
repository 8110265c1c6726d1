use Rattle.std.proofs.Common.{refl}
use Rattle.tree_check.specs.Found.{no_begins}
use Rattle.tree_check.proofs.Simulation.{told_so}
use Rattle.tree_check.proofs.check_tree.Goals as goal

pub read_into-requires : goal.read_into-requires
unfolding no_begins
read_into-requires c = refl

pub returns : goal.returns
returns c = told_so _ _ _ c.read_into.ensures
