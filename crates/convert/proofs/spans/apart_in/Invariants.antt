-- `convert::spans::apart_in` meets its contract. The invariant: the rows that are left give the answer that all rows give. SpanLaws has a row that agrees, a row that
-- differs, and the end.
use Rattle.std.proofs.Common.{◌≡◌, ◌+◌, length}
use Rattle.std.specs.Slice.Iter.{chunks_exact_rest, chunks_exact_size}
use Rattle.convert.proofs.SpanLaws.{agree_from}
use Rattle.convert.proofs.spans.apart_in.Given as goal

abbrev pub invariant-loop-row : goal.invariant-loop-row
invariant-loop-row l =
    let rest = chunks_exact_rest l.row-iterator in
    (chunks_exact_size l.row-iterator ≡ l.width) × ((l.end + length rest ≡ l.begin + length l.rows) × (agree_from l.width l.end rest ≡ agree_from l.width l.begin l.rows))
