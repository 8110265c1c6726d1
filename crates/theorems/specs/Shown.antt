-- What a caller of the build sees, of an outcome that is due.
use Rattle.std.specs.Prelude.{ℕ, ◌≡◌, ◌↔◌, List, Result, IsOk, IfOk, IfErr}
use Rattle.definition.specs.Build.{Outcome}
use Rattle.walk.specs.declared.answer.Walked.{Walked}
use Rattle.build.specs.declared.answer.BuildError.{BuildError}
use Rattle.build.specs.Entry.{code_of, place_of, rows_of, visits_of}

-- an Ok exactly where the code is 0, with the numbers of rows, visits and lines; an error whose methods give the code, the place, rows
-- and visits; and each word of the two buffers
pub record Shows (due : Outcome) (answer : Result Walked BuildError) (tree' index' : List ℕ) : Type 0 where
  pub accepted : IsOk answer ↔ (due.code ≡ 0)
  pub walked : IfOk answer (λ walked. (walked.rows ≡ due.rows) × (walked.visits ≡ due.visits) × (walked.lines ≡ due.lines))
  pub error : IfErr answer (λ error. (code_of error ≡ due.code) × (place_of error ≡ due.at)
      × (rows_of error ≡ due.rows) × (visits_of error ≡ due.visits))
  pub tree : tree' ≡ due.buffer
  pub index : index' ≡ due.index
