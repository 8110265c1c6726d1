-- A text in a lent buffer, as paper 02's requests give it (M-110, M-112): "its text first in the lent buffer, then zeros", and its length.
use Rattle.std.specs.Prelude.{ℕ, ◌≤◌, ◌≡◌, List, [], true, false, leb, eqb, length, take, replicate, Result, Ok, Err}
use Rattle.text.specs.Decimal.{choose}
use Rattle.text.specs.Lent.{padded}
use Rattle.text.specs.Printed.{printed}

-- code (0 accepted), at, the length of the text, and what the lent buffer holds
pub record Placing : Type 0 where
  pub code : ℕ
  pub at : ℕ
  pub length : ℕ
  pub buffer : List ℕ

-- "A refusal leaves zeros and gives length 0."
unfoldable pub refusal : (code at lent : ℕ) → Placing
refusal code at lent = record { code = code; at = at; length = 0; buffer = replicate lent 0 }

-- `short`, at 0, "when the written text doesn't fit"
unfoldable pub placed : (short lent : ℕ) → (text : List ℕ) → Placing
placed short lent text =
    elim (leb (length text) lent) [
      | true ↦ record { code = 0; at = 0; length = length text; buffer = padded lent text }
      | false ↦ refusal short 0 lent
    ]

-- the code (0 accepted) and the place of an answer, by the numbers of its errors
abbrev pub answer_code : {T E : Type 0} → (code_of : E → ℕ) → Result T E → ℕ
answer_code code_of (Ok _) = 0
answer_code code_of (Err error) = code_of error

abbrev pub answer_place : {T E : Type 0} → (place_of : E → ℕ) → Result T E → ℕ
answer_place place_of (Ok _) = 0
answer_place place_of (Err error) = place_of error

module _ {E : Type 0} (code_of place_of : E → ℕ) where
  -- an entry's answer, by the numbers of its errors, and the lent buffer
  abbrev pub placing : Result ℕ E → List ℕ → Placing
  placing (Ok length) buffer = record { code = 0; at = 0; length = length; buffer = buffer }
  placing (Err error) buffer = record { code = code_of error; at = place_of error; length = 0; buffer = buffer }

  -- the same, where a refusal leaves zeros
  unfoldable pub cleared : Result ℕ E → (buffer : List ℕ) → Placing
  cleared (Ok length) buffer = record { code = 0; at = 0; length = length; buffer = buffer }
  cleared (Err error) buffer = refusal (code_of error) (place_of error) (length buffer)

-- ---- what a program prints of such an answer

-- the text; of a refusal two lines, with no rows and no visits
unfoldable pub printed_placing : Placing → List ℕ
printed_placing answer = choose (eqb answer.code 0) (λ _. take answer.length answer.buffer) (λ _. printed answer.code answer.at 0 0 [])

-- a buffer of `lent` bytes holds a text of the answer's length, and then zeros; a refusal has no text
pub record Holding (lent : ℕ) (answer : Placing) : Type 0 where
  pub text : List ℕ
  pub long : length text ≡ answer.length
  pub fits : length text ≤ lent
  pub held : answer.buffer ≡ padded lent text
