-- What the writer of a renamed table has written.
use Rattle.std.specs.Prelude.{ℕ, ◌+◌, ◌*◌, ◌<◌, ◌≤◌, ◌≡◌, List, [], ◌∷◌, Bool, false, get_or, length}
use Rattle.table.specs.Words.{block_count}
use Rattle.renaming.specs.Renaming.{names_block, renamed_block_row, renamed}

-- the number that the list gives to a block; any other number stays as it is
unfoldable pub number_in : (numbers : List ℕ) → ℕ → ℕ
number_in numbers b = get_or numbers b b

-- which of a block row's eleven columns name a block
unfoldable pub columns_of : (code : ℕ) → List Bool
columns_of code = false ∷ false ∷ false ∷ names_block code 0 ∷ names_block code 1 ∷ names_block code 2 ∷ names_block code 3 ∷ names_block code 4 ∷ false ∷ false ∷ false ∷ []

-- the table with its blocks named by `names`, and in each row the old row that `rows` says
unfoldable pub renumbered : (ws names rows : List ℕ) → List ℕ
renumbered ws names rows = renamed (number_in names) (number_in rows) ws

-- each list has a number for every block, and the rows are those of blocks
pub record Numbering (ws names rows : List ℕ) : Type 0 where
  pub named : length names ≡ block_count ws
  pub rowed : length rows ≡ block_count ws
  pub there : (row : ℕ) → row < block_count ws → get_or rows row 0 < block_count ws

-- the first `count` blocks have their rows
pub record BlockRows (ws names rows : List ℕ) (count : ℕ) (out : List ℕ) : Type 0 where
  pub long : length out ≡ block_count ws * 11
  pub row : (i : ℕ) → i < count → (k : ℕ) → k < 11 → get_or out (i * 11 + k) 0 ≡ get_or (renamed_block_row (number_in names) ws (get_or rows i 0)) k 0

-- the first `count` case rows have their blocks renamed, and all else is as it was
pub record CaseRows (names old : List ℕ) (count : ℕ) (out : List ℕ) : Type 0 where
  pub long : length out ≡ length old
  pub test : (i : ℕ) → get_or out (i * 2) 0 ≡ get_or old (i * 2) 0
  pub block : (i : ℕ) → i < count → get_or out (i * 2 + 1) 0 ≡ number_in names (get_or old (i * 2 + 1) 0)
  pub kept : (i : ℕ) → count ≤ i → get_or out (i * 2 + 1) 0 ≡ get_or old (i * 2 + 1) 0
