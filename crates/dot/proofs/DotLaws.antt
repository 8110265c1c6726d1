-- Laws of the drawing's text.
use mathlib.Core.Path.{◌≡◌, refl}
use mathlib.Core.List.{List, [], ◌∷◌, ◌++◌, append-nil, append_assoc}
use Prim.Native.Nat.{ℕ, suc, ◌+◌, ◌-◌, ◌^◌, ◌≤◌, ◌<◌}
use native.Mathlib.Omega.{arith}
use native.Mathlib.Numerals.{add-one}
use lib.ListN.{length, length-append}
use Rattle.text.proofs.DecimalLaws.{decimal_ten}
use Rattle.text.specs.Writer.{written}
use Rattle.text.specs.declared.write.Writer.{Writer}
use Rattle.text.proofs.WriterLaws.{written_append}
use Rattle.table.specs.Table.{Table}
use Rattle.table.specs.Lines.{Line, named_at, lines_to, lines_from}
use Rattle.dot.specs.Dot.{line_text, lines_text}

-- a line between numbers of 32 bits
pub line_most : (from to : ℕ) → from < 2 ^ 32 → to < 2 ^ 32 → length (line_text (record { from = from; to = to })) ≤ 28
unfolding line_text
line_most from to p q = simp length-append (omega (arith, decimal_ten from p, decimal_ten to q))

-- ---- the lines of a row

pub no_line : (row : ℕ) → lines_text (lines_to row []) ≡ []
unfolding lines_text
no_line row = refl

pub one_line : (row to : ℕ) → lines_text (lines_to row (to ∷ [])) ≡ line_text (record { from = row; to = to })
unfolding lines_text
one_line row to = append-nil (line_text (record { from = row; to = to }))

-- of some blocks, then of others
names_append : (row : ℕ) (a b : List ℕ) → lines_text (lines_to row (a ++ b)) ≡ lines_text (lines_to row a) ++ lines_text (lines_to row b)
unfolding lines_text
names_append row [] b = refl
names_append row (to ∷ a) b = rw (names_append row a b, append_assoc)

-- more lines behind those written
pub names_more : (w : Writer) (row : ℕ) (a b : List ℕ)
    → written w (lines_text (lines_to row (a ++ b))) ≡ written (written w (lines_text (lines_to row a))) (lines_text (lines_to row b))
names_more w row a b = rw (names_append row a b) (written_append w _ _)

-- ---- the rows

lines_append : (a b : List Line) → lines_text (a ++ b) ≡ lines_text a ++ lines_text b
unfolding lines_text
lines_append [] b = refl
lines_append (line ∷ a) b = rw (lines_append a b, append_assoc)

-- one row more, of those from `row` on
pub rows_more : (w : Writer) (t : Table) (rows row : ℕ) → row < rows
    → written w (lines_text (lines_from t row (rows - row))) ≡ written (written w (lines_text (lines_to row (named_at t row)))) (lines_text (lines_from t (row + 1) (rows - (row + 1))))
unfolding lines_from
rows_more w t rows row p =
    let e : rows - row ≡ suc (rows - (row + 1)) = omega arith in
    rw (e, lines_from, add-one row, lines_append) (written_append w _ _)

pub rows_done : (w : Writer) (t : Table) (rows row : ℕ) → rows ≤ row → written w (lines_text (lines_from t row (rows - row))) ≡ w
unfolding lines_from lines_text written
rows_done w t rows row p = let e : rows - row ≡ 0 = omega arith in rw e
