use Rattle.definition.proofs.Readings.{one_reading}
use Rattle.theorems.proofs.rows_have_one_reading.Goals as goal

pub returns : goal.returns
returns c = one_reading
