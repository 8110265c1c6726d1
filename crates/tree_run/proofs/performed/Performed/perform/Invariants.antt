use Rattle.std.proofs.Common.{◌≡◌}
use Rattle.tree_run.proofs.PerformLaws.{Performing}
use Rattle.tree_run.proofs.performed.Performed.perform.Given as goal

abbrev pub invariant-loop-row : goal.invariant-loop-row
invariant-loop-row l = record {
  can : (goal.iterator-loop-row).can_next l.row-iterator;
  finite : (goal.iterator-loop-row).is_finite l.row-iterator;
  end : l.row-iterator.end ≡ l.fn.rows.end;
  doing : Performing l.tree.words.now l.initial.self l.self l.fn.rows.start l.fn.rows.end l.row-iterator.start;
}
