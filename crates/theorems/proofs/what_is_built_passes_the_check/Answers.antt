use Rattle.tree_grammar.proofs.BuiltReads.{built_answered}
use Rattle.theorems.proofs.what_is_built_passes_the_check.Goals as goal

pub returns : goal.returns
returns c = built_answered
