-- What the functions below the check find in a row, its first bad column, and what they ask of a closure that finds it.
use Rattle.std.specs.Prelude.{ℕ, suc, ◌+◌, ◌*◌, ◌<◌, ◌≡◌, List, [], ◌∷◌, true, false, ltb, length, Option, Some, None}
use Rattle.table.specs.Words.{word}
use Rattle.table.specs.Check.{Rule, fits}
use Rattle.table.specs.Answer.{limit}

-- the limits of the words from `column` on
abbrev pub limits_from : (ℕ → ℕ) → ℕ → List Rule → List ℕ
limits_from words column [] = []
limits_from words column (rule ∷ rules) = limit rule (words column) ∷ limits_from words (suc column) rules

-- the first column, from `column` on, whose word does not fit its rule
unfoldable pub first_bad : (ℕ → ℕ) → ℕ → List Rule → Option ℕ
first_bad words column [] = None
first_bad words column (rule ∷ rules) = elim (fits rule (words column)) [ true ↦ first_bad words (suc column) rules | false ↦ Some column ]

-- the first column, from `column` on, whose word is not below its limit
unfoldable pub first_not_below : (ℕ → ℕ) → ℕ → List ℕ → Option ℕ
first_not_below words column [] = None
first_not_below words column (below ∷ limits) = elim (ltb (words column) below) [ true ↦ first_not_below words (suc column) limits | false ↦ Some column ]

-- what is read of each column below `width` is this word
pub record Reads (reads : (column word : ℕ) → Type 0) (width : ℕ) (words : ℕ → ℕ) : Type 0 where
  pub is : (column word : ℕ) → column < width → reads column word → word ≡ words column

-- of a table whose rows begin at `begin` and have `width` words: what is found of each row is its first bad column
pub record Finds (finds : (row : ℕ) → Option ℕ → Type 0) (ws : List ℕ) (begin width rows : ℕ) (rules : ℕ → List Rule) : Type 0 where
  pub wide : (row : ℕ) → length (rules row) ≡ width
  pub is : (row : ℕ) (bad : Option ℕ) → row < rows → finds row bad → bad ≡ first_bad (λ column. word ws (begin + row * width + column)) 0 (rules row)
