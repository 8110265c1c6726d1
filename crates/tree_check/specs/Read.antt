-- The contracts of the functions below `check_file`.
use Rattle.std.specs.Prelude.{ℕ, ◌≤◌, ◌≡◌, List, Result, Ok, Err, length}
use Rattle.text.specs.Lent.{Holds}
use Rattle.tree_check.specs.declared.file.BadByte.{BadByte}
use Rattle.tree_check.specs.Found.{TreeChecked, tree_checked}
use Rattle.tree_check.specs.Scan.{stopped, words, table_words}

-- so many words were read, and they are in the buffer, as far as there are places for them
pub record WordsRead (names : List ℕ) (last : ℕ) (file lent : List ℕ) (count : ℕ) : Type 0 where
  pub list : List ℕ
  pub is : table_words names last file ≡ words list
  pub held : Holds lent count list
  pub few : count ≤ length file

-- the file is refused at a byte
pub record Refused (names : List ℕ) (last : ℕ) (file : List ℕ) (at : ℕ) : Type 0 where
  pub is : table_words names last file ≡ stopped at
  pub within : at ≤ length file

-- what reading a file gives
abbrev pub RowsRead : (names : List ℕ) → (last : ℕ) → (file lent : List ℕ) → Result ℕ BadByte → Type 0
RowsRead names last file lent (Ok count) = WordsRead names last file lent count
RowsRead names last file lent (Err bad) = Refused names last file bad.at

abbrev pub checked_as : List ℕ → TreeChecked → Type 0
checked_as list r = r ≡ tree_checked list
