use Rattle.std.proofs.Common.{◌≡◌, ◌-◌}
use Rattle.tree_run.specs.Holds.{back_by}
use Rattle.tree_run.proofs.row_walk.case_at.Given as goal

abbrev pub invariant-loop : goal.invariant-loop
invariant-loop l = back_by l.tree.begin.now l.place l.last ≡ back_by l.tree.begin.now (l.place - l.counter) l.row
