use Rattle.renaming.proofs.Theorem.{built_renamed}
use Rattle.theorems.proofs.any_renumbering_builds_the_same.Goals as goal

pub returns : goal.returns
returns c = λ words ok new old renaming rule lent lent_index. built_renamed new old rule words lent lent_index renaming ok
