-- `table::words::identifier_count` meets its contract.
use borrow.Author.Rules.{rules}
use Rattle.table.specs.Words.{identifier_count, word}
use Rattle.table.proofs.words.identifier_count.Goals as goal

pub returns : goal.returns
unfolding identifier_count word
returns c = search rules
