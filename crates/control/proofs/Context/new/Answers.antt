use Rattle.control.proofs.ContextLaws.{created}
use Rattle.control.proofs.Context.new.Goals as goal

pub returns : goal.returns
returns c = created
