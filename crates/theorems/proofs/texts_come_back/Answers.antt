use Rattle.convert.proofs.Trips.{old_again, new_again}
use Rattle.theorems.proofs.texts_come_back.Goals as goal

pub returns : goal.returns
returns c = (old_again, new_again)
