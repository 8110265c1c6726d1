-- The numbers of the walk's own answer.
use Rattle.std.specs.Prelude.{ℕ, Result, Ok, Err}
use Rattle.table.specs.Answer.{refusal_code, refusal_place}
use Rattle.walk.specs.Refusal as walk
use Rattle.definition.specs.Preview.{Preview}
use Rattle.walk.specs.declared.answer.Walked.{Walked}
use Rattle.walk.specs.declared.answer.WalkError.{WalkError}
use Rattle.walk.specs.declared.answer.WalkError.TheVariants.{Table, Walk}

abbrev pub code_of : WalkError → ℕ
code_of (Table refusal) = refusal_code refusal
code_of (Walk refused) = walk.refusal_code refused.refusal

abbrev pub place_of : WalkError → ℕ
place_of (Table refusal) = refusal_place refusal
place_of (Walk refused) = walk.refusal_place refused.refusal

-- the walk counts rows beyond the buffer: its callers refuse them
abbrev pub rows_of : WalkError → ℕ
rows_of _ = 0

-- of words that are no table 0: no visit is begun
abbrev pub visits_of : WalkError → ℕ
visits_of (Table _) = 0
visits_of (Walk refused) = refused.visits

module _ {E : Type 0} (code_of place_of rows_of visits_of : E → ℕ) where
  -- an answer's five numbers, by those of its errors: the code (0 accepted), the place, and the numbers of rows, visits and lines
  abbrev pub numbers : Result Walked E → Preview
  numbers (Ok walked) = record { code = 0; at = 0; rows = walked.rows; visits = walked.visits; lines = walked.lines }
  numbers (Err error) = record { code = code_of error; at = place_of error; rows = rows_of error; visits = visits_of error; lines = 0 }
