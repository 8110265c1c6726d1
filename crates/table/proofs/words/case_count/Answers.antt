-- `table::words::case_count` meets its contract.
use borrow.Author.Rules.{rules}
use Rattle.table.specs.Words.{case_count, word}
use Rattle.table.proofs.words.case_count.Goals as goal

pub returns : goal.returns
unfolding case_count word
returns c = search rules
