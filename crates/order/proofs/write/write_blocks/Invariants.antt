-- The invariant: so many rows have been written.
use Rattle.order.specs.Write.{BlockRows}
use Rattle.order.proofs.write.write_blocks.Given as goal

abbrev pub invariant-loop-row : goal.invariant-loop-row
invariant-loop-row l = BlockRows l.table.words.now l.names l.rows l.row l.new_rows
