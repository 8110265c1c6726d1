-- `table::words::entry` meets its contract.
use borrow.Author.Rules.{rules}
use Rattle.table.specs.Words.{entry_word, word}
use Rattle.table.proofs.words.entry.Goals as goal

pub returns : goal.returns
unfolding entry_word word
returns c = search rules
