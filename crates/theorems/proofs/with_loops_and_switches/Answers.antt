use Rattle.definition.proofs.Law.{loops_law, loops_and_switches_law}
use Rattle.theorems.proofs.with_loops_and_switches.Goals as goal

pub returns : goal.returns
returns c = (loops_law, loops_and_switches_law)
