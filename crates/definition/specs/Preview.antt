-- M-106: "Size first, then build." The five numbers of a build, from the words alone. Quotes are M-106's.
use Rattle.std.specs.Prelude.{ℕ, List, length}
use Rattle.table.specs.Check.{Verdict, checked}
use Rattle.table.specs.Table.{table_of}
use Rattle.table.specs.Check as check
use Rattle.definition.specs.Around.{Rule}
use Rattle.definition.specs.Build.{Report, accepted, rejected, report, Outcome}

-- "a preview that takes the words alone and gives code, at, rows, visits and the number of lines"
pub record Preview : Type 0 where
  pub code : ℕ
  pub at : ℕ
  pub rows : ℕ
  pub visits : ℕ
  pub lines : ℕ

unfoldable pub preview_of : Report → Preview
preview_of (accepted rows lines visits) = record { code = 0; at = 0; rows = length rows; visits = visits; lines = length lines }
preview_of (rejected code at visits) = record { code = code; at = at; rows = 0; visits = visits; lines = 0 }

unfoldable pub preview_after : Rule → Verdict → List ℕ → Preview
preview_after rule (check.refused code at) words = record { code = code; at = at; rows = 0; visits = 0; lines = 0 }
preview_after rule check.accepted words = preview_of (report rule (table_of words))

-- "There is one preview for each entry of M-102."
unfoldable pub previewed : Rule → (words : List ℕ) → Preview
previewed rule words = preview_after rule (checked words) words

-- the same five of a build
abbrev pub numbers_of : Outcome → Preview
numbers_of outcome = record { code = outcome.code; at = outcome.at; rows = outcome.rows; visits = outcome.visits; lines = outcome.lines }
