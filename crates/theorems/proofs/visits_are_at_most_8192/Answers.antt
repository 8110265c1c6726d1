use Rattle.definition.proofs.Visits.{visits_most}
use Rattle.theorems.proofs.visits_are_at_most_8192.Goals as goal

pub returns : goal.returns
returns c = visits_most
