use Rattle.theorems.proofs.Found.{finds_labelled}
use Rattle.theorems.proofs.a_lookup_finds_the_statement.Goals as goal

pub returns : goal.returns
returns c = finds_labelled
