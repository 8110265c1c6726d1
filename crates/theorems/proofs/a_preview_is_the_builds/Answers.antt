use Rattle.definition.proofs.Preview.{preview_numbers, preview_code}
use Rattle.theorems.proofs.a_preview_is_the_builds.Goals as goal

pub returns : goal.returns
returns c = λ rule words lent lent_index. (preview_numbers rule words lent lent_index, preview_code rule words)
