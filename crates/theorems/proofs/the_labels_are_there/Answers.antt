use Rattle.theorems.proofs.Language.{labels_there}
use Rattle.theorems.proofs.the_labels_are_there.Goals as goal

pub returns : goal.returns
returns c = labels_there
