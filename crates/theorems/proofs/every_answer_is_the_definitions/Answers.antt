use Rattle.theorems.proofs.Calls.{shown}
use Rattle.theorems.proofs.every_answer_is_the_definitions.Goals as goal

pub returns : goal.returns
returns c = shown _ c.call.result _ _ c.call.ensures
