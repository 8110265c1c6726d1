-- `table::words::Words::identifier_word` meets its contract.
use native.Mathlib.Omega.{arith}
use Rattle.table.specs.Words.{words_needed, identifier_word, word}
use Rattle.table.proofs.words.Words.identifier_word.Goals as goal

pub bounds-self-at : goal.bounds-self-at
unfolding words_needed
bounds-self-at c = omega (arith, c.args.self.sized.long)

pub returns : goal.returns
unfolding identifier_word word
returns c = rw c.identifiers_begin.ensures.0
