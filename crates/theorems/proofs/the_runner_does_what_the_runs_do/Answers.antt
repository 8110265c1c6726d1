use Rattle.theorems.proofs.Runner.{runs_as_blocks}
use Rattle.theorems.proofs.the_runner_does_what_the_runs_do.Goals as goal

pub returns : goal.returns
returns c = runs_as_blocks
