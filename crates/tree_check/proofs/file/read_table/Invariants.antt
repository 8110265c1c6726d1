use lib.ListN.{length}
use Rattle.tree_check.proofs.FileLaws.{Scanning}
use Rattle.tree_check.proofs.file.read_table.Given as goal

abbrev pub invariant-loop-at : goal.invariant-loop-at
invariant-loop-at l = Scanning l.columns.names.now l.last l.file (length l.initial.words) l.words l.scan l.count l.at
