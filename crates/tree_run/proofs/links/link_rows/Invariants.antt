-- Two invariants of LinkLaws: RowsDone, the rows before `row` are linked; and PartsDone, so are the parts of `row` from `cursor` on. `cursor` falls, since a part
-- begins no later than it closes.
use Rattle.tree_run.proofs.LinkLaws.{RowsDone, PartsDone}
use Rattle.tree_run.proofs.links.link_rows.Given as goal

abbrev pub invariant-loop-cursor : goal.invariant-loop-cursor
invariant-loop-cursor l = PartsDone l.begin l.rows l.links l.row l.cursor l.later

abbrev pub decreases-loop-cursor : goal.decreases-loop-cursor
decreases-loop-cursor l = l.cursor

abbrev pub invariant-loop-row : goal.invariant-loop-row
invariant-loop-row l = RowsDone l.begin l.rows l.links l.row
