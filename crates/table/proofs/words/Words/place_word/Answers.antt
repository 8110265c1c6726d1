-- `table::words::Words::place_word` meets its contract.
use native.Mathlib.Omega.{arith}
use Rattle.table.specs.Words.{words_needed, identifiers_begin, place_word, word}
use Rattle.table.proofs.words.Words.place_word.Goals as goal

pub bounds-self-at : goal.bounds-self-at
unfolding words_needed identifiers_begin
bounds-self-at c = omega (arith, c.args.self.sized.long)

pub returns : goal.returns
unfolding place_word word
returns c = rw c.places_begin.ensures.0
