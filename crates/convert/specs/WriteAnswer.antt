-- What an answer of `write_table` means, by the papers' numbers.
use Rattle.std.specs.Prelude.{ℕ, List, Result}
use Rattle.table.specs.Answer.{refusal_code, refusal_place}
use Rattle.text.specs.Placed.{Placing}
use Rattle.text.specs.Placed as text
use Rattle.convert.specs.declared.writing.WriteError.{WriteError}
use Rattle.convert.specs.declared.writing.WriteError.TheVariants.{Table, NoRoom}

-- refusals 1 to 4, then "53, at 0, when the written text doesn't fit"
abbrev pub code_of : WriteError → ℕ
code_of (Table refusal) = refusal_code refusal
code_of NoRoom = 53

abbrev pub place_of : WriteError → ℕ
place_of (Table refusal) = refusal_place refusal
place_of NoRoom = 0

-- an answer and the lent buffer; and the same where a refusal leaves zeros
abbrev pub placing : Result ℕ WriteError → List ℕ → Placing
placing = text.placing code_of place_of

abbrev pub cleared : Result ℕ WriteError → List ℕ → Placing
cleared = text.cleared code_of place_of
