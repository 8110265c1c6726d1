-- `table::words::Words::instruction_word` meets its contract.
use native.Mathlib.Omega.{arith}
use Rattle.table.specs.Words.{words_needed, identifiers_begin, places_begin, cases_begin, instruction_word, word}
use Rattle.table.proofs.words.Words.instruction_word.Goals as goal

pub bounds-self-at : goal.bounds-self-at
unfolding words_needed identifiers_begin places_begin cases_begin
bounds-self-at c = omega (arith, c.args.self.sized.long)

pub returns : goal.returns
unfolding instruction_word word
returns c = rw c.instructions_begin.ensures.0
