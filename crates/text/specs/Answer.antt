-- What reading a file gives (paper 01, "Whoever writes the file"). `proofs/AnswerLaws` shows that there is one answer, and one content of the lent words.
use Rattle.std.specs.Prelude.{◌≡◌, List, ◌⊎◌, ℕ, ◌≤◌, ◌<◌, length, replicate, Result, Ok, Err}
use Rattle.text.specs.Layout.{Layout}
use Rattle.text.specs.File.{Good, Refused}
use Rattle.text.specs.Lent.{padded}
use Rattle.text.specs.declared.read.ReadError.{ReadError}
use Rattle.text.specs.declared.read.ReadError.TheVariants.{TooLong, NotInForm, NoRoom}

-- paper 01: "51 over 32,768 bytes, at 0; then 50 not in the form (..), at the first byte no good file could have there"; and 54, at 0, where
-- the words are more than the lent ones
abbrev pub code_of : ReadError → ℕ
code_of TooLong = 51
code_of (NotInForm at) = 50
code_of NoRoom = 54

abbrev pub place_of : ReadError → ℕ
place_of TooLong = 0
place_of (NotInForm at) = at
place_of NoRoom = 0

-- the refusals: 51 for a file of over 32,768 bytes, at 0; then 50 for one that is not in the form
abbrev pub Refusal : Layout → List ℕ → ℕ → ℕ → Type 0
Refusal f file code at =
    ((code ≡ 51) × (at ≡ 0) × (32768 < length file))
    ⊎ ((code ≡ 50) × (length file ≤ 32768) × Refused f file at)

-- the file is short enough and in the form
pub record Accepted (f : Layout) (file words : List ℕ) : Type 0 where
  pub short : length file ≤ 32768
  pub good : Good f file words

-- the number of words, or why there are none
abbrev pub Answer : Type 0
Answer = Result ℕ ReadError

-- why a reading into `room` lent words fails: a refusal with the error's number and place, or more words than these
abbrev pub Fails : Layout → List ℕ → ℕ → ReadError → Type 0
Fails f file room TooLong = Refusal f file (code_of TooLong) (place_of TooLong)
Fails f file room (NotInForm at) = Refusal f file (code_of (NotInForm at)) (place_of (NotInForm at))
Fails f file room NoRoom = (words : List ℕ) × Accepted f file words × (room < length words)

-- the answer of a reading into `room` lent words, and what these hold then
abbrev pub Answered : Layout → List ℕ → ℕ → List ℕ → Answer → Type 0
Answered f file room lent (Ok count) = (words : List ℕ) × Accepted f file words × (length words ≡ count) × (count ≤ room) × (lent ≡ padded room words)
Answered f file room lent (Err error) = Fails f file room error × (lent ≡ replicate room 0)
