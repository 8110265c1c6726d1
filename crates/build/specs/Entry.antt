-- What a build's answer means by the papers' numbers; and the answer with the lent words, as the definition's outcome.
use Rattle.std.specs.Prelude.{ℕ, ◌*◌, ◌-◌, List, ◌++◌, Result, Ok, Err, length, take, replicate}
use Rattle.definition.specs.Build.{refusal}
use Rattle.definition.specs.Build as definition
use Rattle.definition.specs.Preview.{Preview}
use Rattle.walk.specs.Answer as walk
use Rattle.walk.specs.declared.answer.Walked.{Walked}
use Rattle.build.specs.declared.answer.BuildError.{BuildError}
use Rattle.build.specs.declared.answer.BuildError.TheVariants.{Walk, NoRoomForRows, NoRoomForLines}

-- "40 accepted but more rows than whole six-word places". M-101: "41 .. when there are more lines than whole three-word places, after 40"
abbrev pub code_of : BuildError → ℕ
code_of (Walk error) = walk.code_of error
code_of (NoRoomForRows _ _) = 40
code_of (NoRoomForLines _) = 41

-- "at 0"
abbrev pub place_of : BuildError → ℕ
place_of (Walk error) = walk.place_of error
place_of (NoRoomForRows _ _) = 0
place_of (NoRoomForLines _) = 0

-- "Rows is 0 except at 40, where it is the number needed"
abbrev pub rows_of : BuildError → ℕ
rows_of (Walk error) = walk.rows_of error
rows_of (NoRoomForRows rows _) = rows
rows_of (NoRoomForLines _) = 0

abbrev pub visits_of : BuildError → ℕ
visits_of (Walk error) = walk.visits_of error
visits_of (NoRoomForRows _ visits) = visits
visits_of (NoRoomForLines visits) = visits

-- code (0 accepted), at, rows, visits, and the number of lines
abbrev pub numbers : Result Walked BuildError → Preview
numbers = walk.numbers code_of place_of rows_of visits_of

abbrev pub outcome : Result Walked BuildError → (buffer index : List ℕ) → definition.Outcome
outcome answer buffer index = record {
  code = (numbers answer).code;
  at = (numbers answer).at;
  rows = (numbers answer).rows;
  visits = (numbers answer).visits;
  lines = (numbers answer).lines;
  buffer = buffer;
  index = index;
}

-- so many words, "then zeros"
abbrev pub kept : (number : ℕ) → (buffer : List ℕ) → List ℕ
kept number buffer = take number buffer ++ replicate (length buffer - number) 0

-- the same of buffers that are yet to be cleared behind the rows and the lines
abbrev pub outcome_cleared : Result Walked BuildError → (buffer index : List ℕ) → definition.Outcome
outcome_cleared (Ok built) buffer index = outcome (Ok built) (kept (built.rows * 6) buffer) (kept (built.lines * 3) index)
outcome_cleared (Err error) buffer index = refusal (code_of error) (place_of error) (rows_of error) (visits_of error) (length buffer) (length index)
