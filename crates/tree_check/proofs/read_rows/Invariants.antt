use Rattle.tree_check.proofs.ReadLaws.{Reading}
use Rattle.tree_check.proofs.read_rows.Given as goal

abbrev pub invariant-loop-row : goal.invariant-loop-row
invariant-loop-row l = Reading l.tree l.begin l.rows l.row
