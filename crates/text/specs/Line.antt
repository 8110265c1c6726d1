-- Lines of numbers, and the rows that words are cut into.
use Rattle.std.specs.Prelude.{List, [], ◌∷◌, ◌++◌, ℕ, zero, suc, ◌/◌, length, take, drop}
use Rattle.text.specs.Decimal.{decimal}

-- what stands after a number of a line: LF after the last, else a space
abbrev pub after : List ℕ → ℕ
after [] = 10
after (n ∷ ns) = 32

-- a line of numbers in decimal, one space between, LF
unfoldable pub line : List ℕ → List ℕ
line [] = []
line (n ∷ ns) = decimal n ++ (after ns ∷ line ns)

-- a line for each row
unfoldable pub lines : List (List ℕ) → List ℕ
lines [] = []
lines (row ∷ rows) = line row ++ lines rows

-- the first `width` words of each of `count` rows of `stride` words
unfoldable pub cut : (stride width count : ℕ) → List ℕ → List (List ℕ)
cut stride width zero words = []
cut stride width (suc count) words = take width words ∷ cut stride width count (drop stride words)

-- the first `width` words of each whole row of `stride` words
abbrev pub rows_in : (stride width : ℕ) → List ℕ → List (List ℕ)
rows_in stride width words = cut stride width (length words / stride) words

-- the words of the rows
unfoldable pub flat : List (List ℕ) → List ℕ
flat [] = []
flat (row ∷ rows) = row ++ flat rows
