use Rattle.definition.proofs.Law.{run_law}
use Rattle.theorems.proofs.the_tree_runs_as_the_blocks.Goals as goal

pub returns : goal.returns
returns c = run_law
