-- `table::words::Words::block_word` meets its contract.
use native.Mathlib.Omega.{arith}
use borrow.Author.Rules.{rules}
use Rattle.table.specs.Words.{words_needed, identifiers_begin, places_begin, cases_begin, instructions_begin, blocks_begin, block_word, word}
use Rattle.table.proofs.words.Words.block_word.Goals as goal

pub bounds-self-at : goal.bounds-self-at
unfolding words_needed identifiers_begin places_begin cases_begin instructions_begin blocks_begin
bounds-self-at c = omega (arith, c.args.self.sized.long)

pub returns : goal.returns
unfolding block_word word blocks_begin
returns c = search rules
