use Rattle.definition.proofs.LawOfValues.{values_law, values_and_switches_law}
use Rattle.theorems.proofs.value_claims.with_values.Goals as goal

pub returns : goal.returns
returns c = (values_law, values_and_switches_law)
