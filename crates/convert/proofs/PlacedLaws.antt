-- The answer of `text::read::read`, told as code, place and number, is what the definition gives.
use Rattle.std.specs.Prelude.{Ok, Err}
use Prim.Native.Nat.{ℕ, ◌≤◌}
use mathlib.Core.Path.{◌≡◌, refl, ap, ap₂, ◌∙◌}
use mathlib.Core.Bool.{Bool, true, false}
use mathlib.Core.List.{List}
use lib.Dec.{leb}
use lib.ListN.{length, replicate}
use borrow.Author.Tests.{le-leb}
use Rattle.text.specs.Layout.{layout}
use Rattle.text.specs.Lent.{padded}
use Rattle.text.specs.Placed.{Placing, placing}
use Rattle.text.specs.Answer.{Answer, Accepted, code_of, place_of}
use Rattle.text.specs.Reading.{Reading, reads, refuses, reading, WordsRead, read_into}
use Rattle.text.specs.declared.version.Version.TheVariants.{New}
use Rattle.text.specs.declared.read.ReadError.TheVariants.{NoRoom}
use Rattle.text.proofs.ReadingLaws.{Says, reading_says, error_numbers, accepted_reads}
use Rattle.convert.specs.Read.{WordsPlaced, refusal, placed_in, table_read}

-- what `tell` makes of an answer and a buffer of bytes, said of words
abbrev words_of : Placing → WordsPlaced
words_of p = record { code = p.code; at = p.at; count = p.length; lent = p.buffer }

abbrev told : Answer → (lent : List ℕ) → WordsPlaced
told a lent = words_of (placing code_of place_of a lent)

abbrev told_of : WordsRead → WordsPlaced
told_of w = told w.answer w.lent

into_told : (file : List ℕ) (room : ℕ) (r : Reading) → Says (layout New) file r → told_of (read_into room r) ≡ placed_in room r
unfolding read_into placed_in refusal
into_told file room (reads words) s = by (leb (length words) room)
  where
    by : (fits : Bool)
        → told_of (elim fits [
          | true ↦ record { answer = Ok (length words); lent = padded room words }
          | false ↦ record { answer = Err NoRoom; lent = replicate room 0 }
        ]) ≡ elim fits [
          | true ↦ record { code = 0; at = 0; count = length words; lent = padded room words }
          | false ↦ refusal 54 0 room
        ]
    by true = refl
    by false = refl
into_told file room (refuses code at) s =
    let same = error_numbers s in
    ap₂ (λ (c a : ℕ). record { code = c; at = a; count = 0; lent = replicate room 0 }) same.0 same.1

-- an answer of the reader is told as the definition has it
module _ (file : List ℕ) (room : ℕ) where
  told_read : (w : WordsRead) → w ≡ read_into room (reading (layout New) file) → told_of w ≡ table_read file room
  unfolding table_read
  told_read w e = ap told_of e ∙ into_told file room (reading (layout New) file) (reading_says (layout New) file)

  -- so the code, place and number that `tell` gives, with the lent words, are what the definition gives
  pub read_told : (p : Placing) (a : Answer) (lent : List ℕ) → record { answer = a; lent = lent } ≡ read_into room (reading (layout New) file)
      → p ≡ placing code_of place_of a lent → words_of p ≡ table_read file room
  read_told p a lent e t = ap words_of t ∙ told_read _ e

  -- a good file is read as its words
  pub good_read : (words : List ℕ) → Accepted (layout New) file words → length words ≤ room
      → table_read file room ≡ record { code = 0; at = 0; count = length words; lent = padded room words }
  unfolding table_read placed_in
  good_read words good fits = rw (accepted_reads (layout New) file words good, placed_in, le-leb (length words) room fits) refl
