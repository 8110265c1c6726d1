use Rattle.std.proofs.Common.{ap, ◌∙◌}
use lib.ListN.{replicate}
use Rattle.tree_check.specs.Found.{no_begins}
use Rattle.tree_check.proofs.read_tree.Goals as goal

-- the array has 2,048 places, whatever it held
pub read_into-requires : goal.read_into-requires
unfolding no_begins
read_into-requires c = c.fill.ensures.after (λ y e. e) ∙ ap (λ n. replicate n 0) c.told-begin
