-- What an answer of the converters means, by the papers' numbers.
use Rattle.std.specs.Prelude.{ℕ, List, Result}
use Rattle.table.specs.Answer.{refusal_code, refusal_place}
use Rattle.text.specs.Answer as reader
use Rattle.text.specs.Placed.{Placing}
use Rattle.text.specs.Placed as text
use Rattle.convert.specs.declared.ConvertError.{ConvertError}
use Rattle.convert.specs.declared.ConvertError.TheVariants.{File, Table, SpanApart, NoRoom}

-- "50 and 51 as in paper 01, then 1 to 4 with at in words of the form read", 52 at the word of the `to`, and 53, at 0, "when the written text doesn't fit"
abbrev pub code_of : ConvertError → ℕ
code_of (File error) = reader.code_of error
code_of (Table refusal) = refusal_code refusal
code_of (SpanApart _) = 52
code_of NoRoom = 53

abbrev pub place_of : ConvertError → ℕ
place_of (File error) = reader.place_of error
place_of (Table refusal) = refusal_place refusal
place_of (SpanApart at) = at
place_of NoRoom = 0

-- an answer and the lent buffer; and the same where a refusal leaves zeros
abbrev pub placing : Result ℕ ConvertError → List ℕ → Placing
placing = text.placing code_of place_of

abbrev pub cleared : Result ℕ ConvertError → List ℕ → Placing
cleared = text.cleared code_of place_of
