-- What the whole walk promises: the report of the table, or of the words.
use Rattle.std.specs.Prelude as std
use Rattle.std.specs.Prelude.{ℕ, ◌≡◌, List, [], Ok, Err}
use Rattle.table.specs.Check.{Verdict, checked}
use Rattle.table.specs.Check as check
use Rattle.table.specs.Table.{table_of}
use Rattle.definition.specs.Around.{Rule}
use Rattle.definition.specs.Build.{Report, accepted, rejected, report}
use Rattle.definition.specs.Index.{Line}
use Rattle.definition.specs.Tree.{Row}
use Rattle.values.specs.Rows.{Holds}
use Rattle.values.specs.Stack.{pushed}
use Rattle.walk.specs.Answer.{code_of, place_of, visits_of}
use Rattle.walk.specs.Out.{HoldsLines}
use Rattle.walk.specs.Refusal.{refusal_code, refusal_place}
use Rattle.walk.specs.declared.refusal.Refused.{Refused}
use Rattle.walk.specs.declared.answer.Walked.{Walked}
use Rattle.walk.specs.declared.answer.WalkError.{WalkError}
use Rattle.walk.specs.declared.state.Walk.{Walk}

-- an accepted table's report: the buffers hold its rows and lines
pub record Accepted (report : Report) (walked : Walked) (buffer index : List ℕ) : Type 0 where
  pub rows : List Row
  pub lines : List Line
  pub is : report ≡ accepted rows lines walked.visits
  pub held : Holds buffer walked.rows (pushed rows [])
  pub indexed : HoldsLines index walked.lines lines

-- the walk's answer is the report
abbrev pub Reported : Report → std.Result Walked WalkError → (buffer index : List ℕ) → Type 0
Reported report (Ok walked) buffer index = Accepted report walked buffer index
Reported report (Err error) buffer index = report ≡ rejected (code_of error) (place_of error) (visits_of error)

-- the same of a table, which the statement walk alone refuses
abbrev pub TableReported : Report → std.Result Walked Refused → (buffer index : List ℕ) → Type 0
TableReported report (Ok walked) buffer index = Accepted report walked buffer index
TableReported report (Err e) buffer index = report ≡ rejected (refusal_code e.refusal) (refusal_place e.refusal) e.visits

abbrev pub walked_by : Walk → Walked
walked_by w = record { rows = w.tally.rows; visits = w.tally.visits; lines = w.lines }

-- the same, where the walk still has the buffers
abbrev pub Rooted : Report → std.Result (Unit {0}) Refused → Walk → Type 0
Rooted report (Ok _) w = Accepted report (walked_by w) w.tree.now w.index.now
Rooted report (Err e) w = report ≡ rejected (refusal_code e.refusal) (refusal_place e.refusal) e.visits

-- ---- of any words

-- the check's refusal, which begins no visit, or the report of the table
abbrev pub report_after : Rule → Verdict → (words : List ℕ) → Report
report_after rule (check.refused code at) words = rejected code at 0
report_after rule check.accepted words = report rule (table_of words)

unfoldable pub words_report : Rule → (words : List ℕ) → Report
words_report rule words = report_after rule (checked words) words
