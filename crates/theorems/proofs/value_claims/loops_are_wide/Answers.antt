use Rattle.definition.proofs.LoopsAreWide.{old_wide}
use Rattle.theorems.proofs.value_claims.loops_are_wide.Goals as goal

pub returns : goal.returns
returns c = λ width t pl. old_wide t width pl
