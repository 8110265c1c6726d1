-- The preview's answer, as the definition's.
use Rattle.std.specs.Prelude.{Result}
use Rattle.definition.specs.Preview.{Preview}
use Rattle.walk.specs.Answer.{code_of, place_of, rows_of, visits_of}
use Rattle.walk.specs.Answer as walk
use Rattle.walk.specs.declared.answer.Walked.{Walked}
use Rattle.walk.specs.declared.answer.WalkError.{WalkError}

-- code (0 accepted), at, rows, visits, and the number of lines
abbrev pub numbers : Result Walked WalkError → Preview
numbers = walk.numbers code_of place_of rows_of visits_of
