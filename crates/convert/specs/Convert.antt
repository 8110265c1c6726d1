-- M-112: a converter for each way between the old and the new texts. `proofs/OneAnswer` shows that what they give is the one answer that `Converted` allows.
use Rattle.std.specs.Prelude.{ℕ, zero, suc, ◌+◌, ◌-◌, ◌≡◌, ◌⊎◌, List, true, false, length, take, eqb}
use Rattle.table.specs.Words.{word, block_count, instruction_count, blocks_begin, instructions_begin}
use Rattle.table.specs.Check.{Verdict, accepted, refused, and_then, checked}
use Rattle.text.specs.Layout.{Layout, layout}
use Rattle.text.specs.Answer.{Accepted, Refusal}
use Rattle.text.specs.Reading.{Reading, reads, refuses, reading}
use Rattle.text.specs.Lent.{padded}
use Rattle.text.specs.Placed.{Placing, refusal}
use Rattle.text.specs.declared.version.Version.{Version}
use Rattle.text.specs.declared.version.Version.TheVariants.{Old, New}
use Rattle.convert.specs.Cut.{text_in}
use Rattle.convert.specs.Write.{table_text, unless_refused}
use Rattle.convert.specs.OldCheck.{old_checked}
use Rattle.convert.specs.Widen.{widened}

-- of `count` rows of `width` words from the word `at` on: "52 at the word of the first `to` that differs from its `from`"
unfoldable pub ends_agree : List ℕ → (width at count : ℕ) → Verdict
ends_agree ws width at zero = accepted
ends_agree ws width at (suc count) =
    elim (eqb (word ws (at + (width - 2))) (word ws (at + (width - 1)))) [ true ↦ ends_agree ws width (at + width) count | false ↦ refused 52 (at + (width - 1)) ]

-- "The other way is possible only where both ends agree."
unfoldable pub spans_verdict : List ℕ → Verdict
spans_verdict ws = and_then (ends_agree ws 11 blocks_begin (block_count ws)) (ends_agree ws 7 (instructions_begin ws) (instruction_count ws))

-- what the words of an old file, and of a new one, give for a number of bytes lent
unfoldable pub new_of_old : (words : List ℕ) → (lent : ℕ) → Placing
new_of_old words lent = unless_refused (old_checked words) lent (table_text (widened words))

-- the old text has every row of the new one, but without `to`
unfoldable pub old_text : List ℕ → List ℕ
old_text words = text_in (layout New) (layout Old) words

unfoldable pub old_of_new : (words : List ℕ) → (lent : ℕ) → Placing
old_of_new words lent = unless_refused (and_then (checked words) (spans_verdict words)) lent (old_text words)

-- "50 and 51 as in paper 01, then" what the words give
unfoldable pub of_reading : (of : List ℕ → ℕ → Placing) → (lent : ℕ) → Reading → Placing
of_reading of lent (reads words) = of words lent
of_reading of lent (refuses code at) = refusal code at lent

-- the converters: what any file gives for a number of bytes lent
unfoldable pub old_to_new : (file : List ℕ) → (lent : ℕ) → Placing
old_to_new file lent = of_reading new_of_old lent (reading (layout Old) file)

unfoldable pub new_to_old : (file : List ℕ) → (lent : ℕ) → Placing
new_to_old file lent = of_reading old_of_new lent (reading (layout New) file)

-- the two by the form that is read
abbrev pub conversion : Version → (file : List ℕ) → (lent : ℕ) → Placing
conversion Old = old_to_new
conversion New = new_to_old

-- ---- the same with no reader in it: the file is good and has these words, or it is refused

pub record OfWords (f : Layout) (of : List ℕ → ℕ → Placing) (file : List ℕ) (lent : ℕ) (answer : Placing) : Type 0 where
  pub words : List ℕ
  pub accepted : Accepted f file words
  pub is : answer ≡ of words lent

pub record OfRefusal (f : Layout) (file : List ℕ) (lent : ℕ) (answer : Placing) : Type 0 where
  pub code : ℕ
  pub at : ℕ
  pub refused : Refusal f file code at
  pub is : answer ≡ refusal code at lent

abbrev pub Converted : (f : Layout) → (of : List ℕ → ℕ → Placing) → (file : List ℕ) → (lent : ℕ) → (answer : Placing) → Type 0
Converted f of file lent answer = OfWords f of file lent answer ⊎ OfRefusal f file lent answer

-- ---- the round trips: "Given room, old to new to old gives again any old text"

-- a whole text in a buffer, accepted
abbrev pub wholly : (lent : ℕ) → (text : List ℕ) → Placing
wholly lent text = record { code = 0; at = 0; length = length text; buffer = padded lent text }

-- the text of an answer
abbrev pub text_of_answer : Placing → List ℕ
text_of_answer answer = take answer.length answer.buffer
