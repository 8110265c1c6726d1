-- `link_rows` links every row, by LinkLaws: a step of the inner loop links one part more (`parts_more`), a step of the outer loop ends with all parts of its
-- row linked (`row_done`), and after the last row all rows are (`rows_linked`).
use Rattle.std.proofs.Common.{rules}
use Rattle.tree_run.proofs.LinkLaws.{cursor_falls, rows_start, parts_start, parts_more, row_done, rows_linked}
use Rattle.tree_run.proofs.links.link_rows.Goals as goal

pub loop-row-init : goal.loop-row-init
loop-row-init c = rows_start _ _ (search rules) c.requires.by_index

pub loop-cursor-init : goal.loop-cursor-init
loop-cursor-init c = parts_start _ _ c.loop-row.invariant c.loop-row-test.true

pub loop-cursor-smaller : goal.loop-cursor-smaller
loop-cursor-smaller c = cursor_falls c.args.begin.now c.args.rows c.requires.by_index _ _ c.loop-cursor-test.true

pub loop-cursor-preserved : goal.loop-cursor-preserved
loop-cursor-preserved c = parts_more _ _ c.requires.by_index (search rules) c.loop-cursor.invariant c.loop-cursor-test.true

pub loop-row-preserved : goal.loop-row-preserved
loop-row-preserved c = row_done _ _ c.requires.by_index c.loop-row-test.true c.requires.rows_bound c.loop-cursor.invariant c.loop-cursor-test.false

pub returns : goal.returns
returns c = rows_linked _ _ c.loop-row.invariant c.loop-row-test.false
