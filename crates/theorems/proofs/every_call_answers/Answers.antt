use Rattle.theorems.proofs.Calls.{answered}
use Rattle.theorems.proofs.every_call_answers.Goals as goal

pub returns : goal.returns
returns c = answered _ _ _ _ _ _ c.call.result c.call.ensures
