use Rattle.definition.proofs.Law.{same_runs_of_loops, same_runs_of_loops_and_switches}
use Rattle.theorems.proofs.value_claims.loops_run_as_before.Goals as goal

pub returns : goal.returns
returns c = (same_runs_of_loops, same_runs_of_loops_and_switches)
