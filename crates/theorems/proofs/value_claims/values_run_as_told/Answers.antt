use Rattle.definition.proofs.ValueExamples.{examples}
use Rattle.theorems.proofs.value_claims.values_run_as_told.Goals as goal

pub returns : goal.returns
returns c = examples
