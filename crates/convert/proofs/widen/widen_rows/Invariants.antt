-- `convert::widen::widen_rows` meets its contract. The invariant: the words so far and the widened rows that are left are all widened rows, and there is just the room
-- for those that are left. WidenLaws has one row more and the end.
use Rattle.std.proofs.Common.{◌≡◌, ◌+◌, ◌*◌, ◌/◌, ◌++◌, List, ℕ, length, take}
use Rattle.std.specs.Slice.Iter.{chunks_exact_rest, chunks_exact_size}
use Rattle.convert.specs.Widen.{doubled_rows}
use Rattle.convert.proofs.widen.widen_rows.Given as goal

-- all rows but those of `rest` were copied
pub record Run (rows : List ℕ) (width : ℕ) (wide : List ℕ) (at : ℕ) (rest : List ℕ) : Type 0 where
  pub room : at + length rest / width * (width + 1) ≡ length wide
  pub split : take at wide ++ doubled_rows width (length rest / width) rest ≡ doubled_rows width (length rows / width) rows

abbrev pub invariant-loop-row : goal.invariant-loop-row
invariant-loop-row l = (chunks_exact_size l.row-iterator ≡ l.width) × Run l.rows l.width l.wide l.at (chunks_exact_rest l.row-iterator)
