use Rattle.definition.proofs.Samples.{the_samples}
use Rattle.theorems.proofs.the_samples_come_out.Goals as goal

pub returns : goal.returns
returns c = the_samples
