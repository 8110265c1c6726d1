use Rattle.definition.proofs.Law.{switch_law}
use Rattle.theorems.proofs.with_switches.Goals as goal

pub returns : goal.returns
returns c = switch_law
