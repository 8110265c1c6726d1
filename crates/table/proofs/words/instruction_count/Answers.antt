-- `table::words::instruction_count` meets its contract.
use borrow.Author.Rules.{rules}
use Rattle.table.specs.Words.{instruction_count, word}
use Rattle.table.proofs.words.instruction_count.Goals as goal

pub returns : goal.returns
unfolding instruction_count word
returns c = search rules
