-- `table::words::block_count` meets its contract.
use borrow.Author.Rules.{rules}
use Rattle.table.specs.Words.{block_count, word}
use Rattle.table.proofs.words.block_count.Goals as goal

pub returns : goal.returns
unfolding block_count word
returns c = search rules
