-- `table::words::Words::case_word` meets its contract.
use native.Mathlib.Omega.{arith}
use Rattle.table.specs.Words.{words_needed, identifiers_begin, places_begin, case_word, word}
use Rattle.table.proofs.words.Words.case_word.Goals as goal

pub bounds-self-at : goal.bounds-self-at
unfolding words_needed identifiers_begin places_begin
bounds-self-at c = omega (arith, c.args.self.sized.long)

pub returns : goal.returns
unfolding case_word word
returns c = rw c.cases_begin.ensures.0
