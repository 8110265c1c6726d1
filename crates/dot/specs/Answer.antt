-- What an answer of `dot` means, by the papers' numbers.
use Rattle.std.specs.Prelude.{ℕ, List, Result}
use Rattle.table.specs.Answer.{refusal_code, refusal_place}
use Rattle.text.specs.Placed.{Placing}
use Rattle.text.specs.Placed as text
use Rattle.dot.specs.declared.DrawError.{DrawError}
use Rattle.dot.specs.declared.DrawError.TheVariants.{Table, NoRoom}

-- "1 to 4 as in the build, then 44, at 0, when the text doesn't fit"
abbrev pub code_of : DrawError → ℕ
code_of (Table refusal) = refusal_code refusal
code_of NoRoom = 44

abbrev pub place_of : DrawError → ℕ
place_of (Table refusal) = refusal_place refusal
place_of NoRoom = 0

-- an answer and the lent buffer; and the same where a refusal leaves zeros
abbrev pub placing : Result ℕ DrawError → List ℕ → Placing
placing = text.placing code_of place_of

abbrev pub cleared : Result ℕ DrawError → List ℕ → Placing
cleared = text.cleared code_of place_of
