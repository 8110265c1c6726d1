-- `text::write::Writer::each_row` meets its contract. The invariant: with the lines of the rows that are left it is the writer after the lines of all rows.
-- WriterLaws has one row more and the end.
use Rattle.std.proofs.Common.{◌≡◌}
use Rattle.std.specs.Slice.Iter.{chunks_exact_rest, chunks_exact_size}
use Rattle.text.specs.Line.{lines, rows_in}
use Rattle.text.specs.Writer.{written}
use Rattle.text.proofs.write.Writer.each_row.Given as goal

abbrev pub invariant-loop-row : goal.invariant-loop-row
invariant-loop-row l =
    (chunks_exact_size l.row-iterator ≡ l.stride)
    × (written l.self (lines (rows_in l.stride l.width (chunks_exact_rest l.row-iterator))) ≡ written l.initial.self (lines (rows_in l.stride l.width l.words)))
