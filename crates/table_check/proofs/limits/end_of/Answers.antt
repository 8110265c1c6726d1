-- `table_check::limits::end_of` meets its contract.
use borrow.Author.Tests.{le-leb, lt-leb}
use Rattle.table_check.proofs.limits.end_of.Goals as goal

pub returns-then-from-word : goal.returns-then-from-word
returns-then-from-word c = rw (le-leb _ _ c.if-from-word.true)

pub returns-else-from-word : goal.returns-else-from-word
returns-else-from-word c = rw (lt-leb _ _ c.if-from-word.false)
