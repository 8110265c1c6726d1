-- What a good file of rows and answers is, with no reader in it. `proofs/FirstByte` shows that `Given.file_given` reads exactly these files, and refuses any
-- other at the first byte that no good file could have there, or at the file's length.
use Rattle.std.specs.Prelude.{◌≡◌, ℕ, List, ◌++◌}
use Rattle.text.specs.Printed.{tree_names}
use Rattle.tree_check.specs.Good.{TableFile}
use Rattle.tree_run.specs.Given.{answer_names}

pub record RunFile (file : List ℕ) : Type 0 where
  pub first : List ℕ
  pub second : List ℕ
  pub rows : TableFile tree_names 5 first
  pub answers : TableFile answer_names 0 second
  pub whole : file ≡ first ++ second
