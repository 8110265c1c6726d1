-- What a program prints of a file, and what the bytes lent for it hold then. The text (`file_text`) depends on what the file reads as; `printing` puts it there.
-- `Prints` says of the text the same with no reader in it; `proofs/PrintsLaws` shows that it allows this text alone.
use Rattle.std.specs.Prelude.{◌≡◌, List, [], ◌⊎◌, ℕ, ◌≤◌, length, Ok}
use Rattle.text.specs.Layout.{Layout}
use Rattle.text.specs.Answer.{Accepted, Refusal}
use Rattle.text.specs.Reading.{Reading, reads, refuses}
use Rattle.text.specs.Printed.{printed, Written, written_of, lent_of}

-- the answer of a program as a function, and what the lent bytes hold then
pub record Printing : Type 0 where
  pub answer : Written
  pub bytes : List ℕ

-- a text in `room` lent bytes
abbrev pub printing : (room : ℕ) → (text : List ℕ) → Printing
printing room text = record { answer = written_of room text; bytes = lent_of room text }

-- a file in the form prints what `of` gives for its words; any other what `other` gives for its refusal
unfoldable pub file_text : (of : List ℕ → List ℕ) → (other : (code at : ℕ) → List ℕ) → Reading → List ℕ
file_text of other (reads words) = of words
file_text of other (refuses code at) = other code at

-- two lines, "rows and visits 0"
abbrev pub refusal_text : (code at : ℕ) → List ℕ
refusal_text code at = printed code at 0 0 []

-- ---- the same with no reader in it: the file is good and has these words, or it is refused

pub record PrintsWords (f : Layout) (of : List ℕ → List ℕ) (file text : List ℕ) : Type 0 where
  pub words : List ℕ
  pub accepted : Accepted f file words
  pub lines : text ≡ of words

pub record PrintsRefusal (f : Layout) (other : (code at : ℕ) → List ℕ) (file text : List ℕ) : Type 0 where
  pub code : ℕ
  pub at : ℕ
  pub refusal : Refusal f file code at
  pub lines : text ≡ other code at

abbrev pub Prints : (f : Layout) → (of : List ℕ → List ℕ) → (other : (code at : ℕ) → List ℕ) → (file text : List ℕ) → Type 0
Prints f of other file text = PrintsWords f of file text ⊎ PrintsRefusal f other file text

-- ---- the contracts of the functions below the programs

-- the answer of writing a text into `room` lent bytes, and what these hold then; `most` bytes are enough
pub record WrittenText (most : ℕ) (text : List ℕ) (room : ℕ) (r : Written) (lent : List ℕ) : Type 0 where
  pub answer : r ≡ written_of room text
  pub bytes : lent ≡ lent_of room text
  pub enough : most ≤ room → r ≡ Ok (length text)
