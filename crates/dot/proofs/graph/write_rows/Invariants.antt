-- `dot::graph::write_rows` meets its contract. The invariant: with the lines of the rows from `row` on it is the writer after all lines of the table.
-- DotLaws has one row more and the end.
use Rattle.std.proofs.Common.{◌≡◌, ◌-◌}
use Rattle.table.specs.Words.{block_count}
use Rattle.table.specs.Table.{table_of}
use Rattle.table.specs.Lines.{lines_from, lines}
use Rattle.text.specs.Writer.{written}
use Rattle.dot.specs.Dot.{lines_text}
use Rattle.dot.proofs.graph.write_rows.Given as goal

abbrev pub invariant-loop-row : goal.invariant-loop-row
invariant-loop-row l =
    let words = l.table.words.now in
    written l.writer (lines_text (lines_from (table_of words) l.row (block_count words - l.row))) ≡ written l.initial.writer (lines_text (lines (table_of words)))
