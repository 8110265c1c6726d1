-- `table::words::place_count` meets its contract.
use borrow.Author.Rules.{rules}
use Rattle.table.specs.Words.{place_count, word}
use Rattle.table.proofs.words.place_count.Goals as goal

pub returns : goal.returns
unfolding place_count word
returns c = search rules
