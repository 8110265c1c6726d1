use Rattle.definition.proofs.Reasons.{good_reason}
use Rattle.theorems.proofs.neither_ever_stops_otherwise.Goals as goal

pub returns : goal.returns
returns c = λ t root answers both. good_reason both.reason both.good
