-- The whole, from words and the lengths of the two lent buffers: paper 01, "Result and refusals", and the index of M-101.
use Rattle.std.specs.Prelude.{ℕ, ◌*◌, ◌-◌, ◌/◌, List, [], ◌∷◌, ◌++◌, true, false, length, replicate, leb}
use Rattle.table.specs.Check.{Verdict, checked}
use Rattle.table.specs.Table.{Table, table_of}
use Rattle.definition.specs.Around.{Rule}
use Rattle.definition.specs.Index.{Line, lines, line_words}
use Rattle.definition.specs.Result.{Result, ok, refused}
use Rattle.definition.specs.Statement.{BlockResult, build_tree}
use Rattle.definition.specs.Tree.{Row, row, rows}
use Rattle.table.specs.Check as check

-- what a table gives where nothing bounds the rows and the lines
pub data Report : Type 0 where
  accepted : List Row → List Line → (visits : ℕ) → Report
  rejected : (code at visits : ℕ) → Report

unfoldable pub reported : Result BlockResult → Report
reported (ok root) = accepted (rows root.statements) (lines root.statements) root.context.visits
reported (refused code at visits) = rejected code at visits

unfoldable pub report : Rule → Table → Report
report rule t = reported (build_tree rule t)

-- "Code (0 accepted), at, rows, visits", M-101's "number of lines", and what the two lent buffers hold
pub record Outcome : Type 0 where
  pub code : ℕ
  pub at : ℕ
  pub rows : ℕ
  pub visits : ℕ
  pub lines : ℕ
  pub buffer : List ℕ
  pub index : List ℕ

-- "Refused: all zeros." M-101: "0 when refused", "A refused build leaves zeros in both buffers"
unfoldable pub refusal : (code at rows visits lent lent_index : ℕ) → Outcome
refusal code at rows visits lent lent_index = record { code = code; at = at; rows = rows; visits = visits; lines = 0; buffer = replicate lent 0; index = replicate lent_index 0 }

-- six words a row
unfoldable pub words_of : List Row → List ℕ
words_of [] = []
words_of (row op a b c d e ∷ rows) = op ∷ a ∷ b ∷ c ∷ d ∷ e ∷ words_of rows

-- "Accepted: at 0, the buffer holds the rows, then zeros", and the index the lines. "40 accepted but more rows than whole six-word places; at 0", with the
-- number needed. M-101: "41 .. when there are more lines than whole three-word places, after 40"; there rows is 0
unfoldable pub placed : (lent lent_index : ℕ) → List Row → List Line → (visits : ℕ) → Outcome
placed lent lent_index rows lines visits =
    elim (leb (length rows) (lent / 6)) [
      | true ↦ elim (leb (length lines) (lent_index / 3)) [
        | true ↦ record {
          code = 0;
          at = 0;
          rows = length rows;
          visits = visits;
          lines = length lines;
          buffer = words_of rows ++ replicate (lent - length rows * 6) 0;
          index = line_words lines ++ replicate (lent_index - length lines * 3) 0;
        }
        | false ↦ refusal 41 0 0 visits lent lent_index
      ]
      | false ↦ refusal 40 0 (length rows) visits lent lent_index
    ]

unfoldable pub outcome_of : (lent lent_index : ℕ) → Report → Outcome
outcome_of lent lent_index (accepted rows lines visits) = placed lent lent_index rows lines visits
outcome_of lent lent_index (rejected code at visits) = refusal code at 0 visits lent lent_index

unfoldable pub after_check : Rule → (lent lent_index : ℕ) → Verdict → List ℕ → Outcome
after_check rule lent lent_index (check.refused code at) words = refusal code at 0 0 lent lent_index
after_check rule lent lent_index check.accepted words = outcome_of lent lent_index (report rule (table_of words))

-- build_reactive_function over words, with buffers of so many words lent for the tree and for the index: the entry that equals the Rust, or the
-- language entry of M-102
unfoldable pub built : Rule → (words : List ℕ) → (lent lent_index : ℕ) → Outcome
built rule words lent lent_index = after_check rule lent lent_index (checked words) words
