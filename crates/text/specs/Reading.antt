-- What a file reads as, a function: its words, or the refusal with its place, byte by byte along the form; and what is then handed back and lent.
-- `proofs/ReadingLaws` shows that this is what `Answer` says of the file, where no reader is in the definition.
use Rattle.std.specs.Prelude.{Bool, true, false, ◌&&◌, List, [], ◌∷◌, ◌++◌, ℕ, ◌+◌, ◌-◌, ◌*◌, eqb, leb, ltb, length, replicate, Ok, Err}
use Rattle.text.specs.Layout.{Layout}
use Rattle.text.specs.Lent.{padded}
use Rattle.text.specs.Answer.{Answer}
use Rattle.text.specs.Form.{Form, finished, byte, field, digits, ending, whole}
use Rattle.text.specs.declared.read.ReadError.{ReadError}
use Rattle.text.specs.declared.read.ReadError.TheVariants.{TooLong, NotInForm, NoRoom}

pub data Reading : Type 0 where
  reads : (words : List ℕ) → Reading
  refuses : (code at : ℕ) → Reading

-- what a byte makes of a form: it may complete a word; or no text of the form begins with it
pub data Next : Type 0 where
  on : (new : List ℕ) → Form → Next
  stuck : Next

unfoldable pub is_digit : ℕ → Bool
is_digit c = leb 48 c && leb c 57

-- after digits of the value v: there is no leading zero, and a number has 32 bits
unfoldable pub may_follow : (v c : ℕ) → Bool
may_follow v c = is_digit c && (ltb 0 v && ltb (v * 10 + (c - 48)) 4294967296)

unfoldable pub next_of : Form → ℕ → Next
next_of finished c = stuck
next_of (byte b rest) c = elim (eqb c b) [ true ↦ on [] rest | false ↦ stuck ]
next_of (field last rest) c = elim (is_digit c) [ true ↦ on [] (digits (c - 48) last rest) | false ↦ stuck ]
next_of (digits v last rest) c =
    elim (eqb c (ending last)) [
      | true ↦ on (v ∷ []) (rest v)
      | false ↦ elim (may_follow v c) [ true ↦ on [] (digits (v * 10 + (c - 48)) last rest) | false ↦ stuck ]
    ]

-- at the file's end
unfoldable pub ended : Form → (at : ℕ) → (words : List ℕ) → Reading
ended finished at words = reads words
ended (byte b rest) at words = refuses 50 at
ended (field last rest) at words = refuses 50 at
ended (digits v last rest) at words = refuses 50 at

-- the bytes from `at` on, after these words
unfoldable pub read_from : Form → (bytes : List ℕ) → (at : ℕ) → (words : List ℕ) → Reading
read_from form [] at words = ended form at words
read_from form (c ∷ bytes) at words = elim (next_of form c) [ on new rest ↦ read_from rest bytes (at + 1) (words ++ new) | stuck ↦ refuses 50 at ]

-- 51, at 0, for a file of over 32,768 bytes; then 50
unfoldable pub reading : Layout → List ℕ → Reading
reading f file = elim (ltb 32768 (length file)) [ true ↦ refuses 51 0 | false ↦ read_from (whole f) file 0 [] ]

-- the answer, and what the lent words hold then
pub record WordsRead : Type 0 where
  pub answer : Answer
  pub lent : List ℕ

-- the error with a refusal's number and place (`Answer.code_of`, `place_of`), which is 51 at 0, or 50
abbrev pub error_of : (code at : ℕ) → ReadError
error_of code at = elim (eqb code 51) [ true ↦ TooLong | false ↦ NotInForm at ]

-- the words and then zeros in `room` lent words; zeros alone where they are refused or too many
unfoldable pub read_into : (room : ℕ) → Reading → WordsRead
read_into room (reads words) =
    elim (leb (length words) room) [
      | true ↦ record { answer = Ok (length words); lent = padded room words }
      | false ↦ record { answer = Err NoRoom; lent = replicate room 0 }
    ]
read_into room (refuses code at) = record { answer = Err (error_of code at); lent = replicate room 0 }
