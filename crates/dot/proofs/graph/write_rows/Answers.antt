-- `write_rows` writes the lines of all rows. A step takes the lines of its row from those that are left to those that are written (`rows_more`);
-- after the last row none is left (`rows_done`).
use Rattle.std.proofs.Common.{refl, sym, ◌∙◌}
use native.Mathlib.Nat.{sub-zero}
use Rattle.table.proofs.TableLaws.{length_blocks}
use Rattle.table.specs.Lines.{lines}
use Rattle.dot.proofs.DotLaws.{rows_more, rows_done}
use Rattle.dot.proofs.graph.write_rows.Goals as goal

pub loop-row-init : goal.loop-row-init
unfolding lines
loop-row-init c = rw (sub-zero _, length_blocks c.args.table.words.now) refl

pub loop-row-preserved : goal.loop-row-preserved
loop-row-preserved c = rw c.write_row.ensures (sym (rows_more _ _ _ _ (rw c.block_count-row-end.ensures at c.loop-row-test.true)) ∙ c.loop-row.invariant)

pub returns : goal.returns
returns c = sym (rows_done _ _ _ _ (rw c.block_count-row-end.ensures at c.loop-row-test.false)) ∙ c.loop-row.invariant
