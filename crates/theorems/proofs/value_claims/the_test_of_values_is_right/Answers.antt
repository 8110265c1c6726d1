use Rattle.definition.proofs.ValueTest.{value_test_lem}
use Rattle.theorems.proofs.value_claims.the_test_of_values_is_right.Goals as goal

pub returns : goal.returns
returns c = value_test_lem
