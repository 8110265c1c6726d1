-- `dot::graph::write_row` meets its contract. The invariants: the lines of the first k case rows were written; then those of the first blocks.
-- DotLaws puts lines behind lines; table's NamedLaws has one name more.
use Rattle.std.proofs.Common.{◌≡◌, take, drop}
use Rattle.table.specs.Table.{table_of}
use Rattle.table.specs.Lines.{case_blocks, lines_to}
use Rattle.table.specs.Named.{present}
use Rattle.text.specs.Writer.{written}
use Rattle.dot.specs.Dot.{lines_text}
use Rattle.dot.proofs.graph.write_row.Given as goal

abbrev pub invariant-loop-k : goal.invariant-loop-k
invariant-loop-k l = l.writer ≡ written l.initial.writer (lines_text (lines_to l.row (case_blocks (take l.k (drop l.named.first_case (table_of l.table.words.now).cases)))))

abbrev pub invariant-loop-block : goal.invariant-loop-block
invariant-loop-block l = l.writer ≡ written l.initial.writer (lines_text (lines_to l.row (present (take l.block-index l.block-items))))
