use Rattle.theorems.proofs.Language.{entries_part, first_never_29}
use Rattle.theorems.proofs.the_entries_differ_only_so.Goals as goal

pub returns : goal.returns
returns c = λ words lent lent_index. (entries_part words lent lent_index, first_never_29 words lent lent_index)
