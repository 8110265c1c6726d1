-- M-102, "which differs only as follows", of the rows that a caller reads: equally many, and the same but for BREAKs whose kind is 2 (Unlabeled) in the
-- first list and 1 (Labeled) in the second.
use Rattle.std.specs.Prelude.{ℕ, List, [], ◌∷◌}
use Rattle.definition.specs.Tree.{Row, row}

pub data RelabeledRows : List Row → List Row → Type 0 where
  no_row_left : RelabeledRows [] []
  the_same_row : (one : Row) {rest rest' : List Row} → RelabeledRows rest rest' → RelabeledRows (one ∷ rest) (one ∷ rest')
  a_break_row : (target id loops : ℕ) {rest rest' : List Row} → RelabeledRows rest rest' → RelabeledRows (row 24 target id 2 loops 0 ∷ rest) (row 24 target id 1 loops 0 ∷ rest')
