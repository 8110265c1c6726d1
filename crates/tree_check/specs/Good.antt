-- What a good file of one table is, with no reader in it, and the place that a file is refused at. `proofs/FirstByte` shows that `Scan.table_words` tells both.
use Rattle.std.specs.Prelude.{◌≡◌, ℕ, suc, ◌<◌, ◌≤◌, List, ◌++◌, length, take}
use Rattle.text.specs.Line.{lines}
use Rattle.text.specs.File.{Rows}

-- the line of names, then a line for each row of `last` + 1 numbers of 32 bits
pub record TableFile (names : List ℕ) (last : ℕ) (file : List ℕ) : Type 0 where
  pub rows : List (List ℕ)
  pub formed : Rows (suc last) rows
  pub text : file ≡ names ++ lines rows

-- the file is not good, and `at` is the first byte that no good file could have there, or the file's length if it is short
pub record RefusedAt (good : List ℕ → Type 0) (file : List ℕ) (at : ℕ) : Type 0 where
  pub within : at ≤ length file
  pub viable : (rest : List ℕ) × good (take at file ++ rest)
  pub no_further : at < length file → (rest : List ℕ) → good (take (suc at) file ++ rest) → ⊥
  pub not_good : good file → ⊥
