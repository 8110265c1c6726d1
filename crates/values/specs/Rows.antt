-- Rows in a lent buffer. The rows that it holds are a stack, the last row first: a new row is pushed, and a row taken back is popped.
use Rattle.std.specs.Prelude.{◌≡◌, Bool, true, false, List, [], ◌∷◌, ℕ, ◌+◌, ◌*◌, ◌/◌, ◌≤◌, ◌<◌, ltb, length, get_or}
use Rattle.std.proofs.lemmas.List.Edits.{sets}
use Rattle.definition.specs.Tree.{Row, row}

-- the six words of a row
abbrev pub cells : Row → List ℕ
cells (row op a b c d e) = op ∷ a ∷ b ∷ c ∷ d ∷ e ∷ []

abbrev pub if_fits : Bool → (stored buffer : List ℕ) → List ℕ
if_fits true stored buffer = stored
if_fits false stored buffer = buffer

-- the buffer with a row at the place n, if it has that place whole
unfoldable pub placed : List ℕ → ℕ → Row → List ℕ
placed buffer n r = if_fits (ltb n (length buffer / 6)) (sets buffer (n * 6) (cells r)) buffer

-- at the place n stands the row r. Nothing is said of a place that the buffer does not have whole
abbrev pub RowAt : List ℕ → ℕ → Row → Type 0
RowAt buffer n r = (k : ℕ) → k < 6 → n * 6 + 6 ≤ length buffer → get_or buffer (n * 6 + k) 0 ≡ get_or (cells r) k 0

-- each row of a stack stands at its place
abbrev pub Rows : List ℕ → List Row → Type 0
Rows buffer [] = Unit {0}
Rows buffer (r ∷ below) = RowAt buffer (length below) r × Rows buffer below

-- the buffer holds the rows of a stack, n of them
pub record Holds (buffer : List ℕ) (n : ℕ) (stack : List Row) : Type 0 where
  pub count : length stack ≡ n
  pub rows : Rows buffer stack

-- a row was written behind n rows, if it fits, and counted
pub record Written (buffer : List ℕ) (n : ℕ) (r : Row) (buffer' : List ℕ) (n' : ℕ) : Type 0 where
  pub words : buffer' ≡ placed buffer n r
  pub count : n' ≡ n + 1
