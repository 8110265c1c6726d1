-- From what reading, checking and writing give to the answers of the converters.
use Rattle.std.specs.Prelude.{Ok, Err}
use Prim.Native.Nat.{ℕ, ◌+◌, ◌*◌, ◌≤◌}
use mathlib.Core.Path.{◌≡◌, refl, ap, ◌∙◌}
use mathlib.Core.List.{List}
use native.Mathlib.Omega.{arith}
use lib.ListN.{length, take}
use Rattle.table.specs.Words.{word, block_count, instruction_count}
use Rattle.table.specs.Check.{accepted, refused, and_then, checked}
use Rattle.text.specs.Layout.{Layout, layout}
use Rattle.text.specs.Answer.{Answered}
use Rattle.text.specs.Answer as answer
use Rattle.text.specs.Reading.{reading}
use Rattle.text.specs.Placed.{Placing, refusal, placed, cleared as cleared_by}
use Rattle.text.specs.declared.read.ReadError.{ReadError}
use Rattle.text.specs.declared.version.Version.{Version}
use Rattle.text.specs.declared.version.Version.TheVariants.{Old, New}
use Rattle.text.proofs.AnswerLaws.{room_enough, good_room}
use Rattle.text.proofs.ReadingLaws.{accepted_reads, refusal_refuses}
use Rattle.text.proofs.PrintsLaws.{words_read}
use Rattle.convert.specs.Cut.{text_in, instructions_at, cases_at, places_at, identifiers_at, end_at, Shaped}
use Rattle.convert.specs.Write.{table_text, unless_refused}
use Rattle.convert.specs.Convert.{spans_verdict, old_text, new_of_old, old_of_new, of_reading, old_to_new, new_to_old, conversion}
use Rattle.convert.specs.ConvertAnswer.{cleared}
use Rattle.convert.specs.Parts.{old_place, moved, of_wide}
use Rattle.convert.specs.declared.ConvertError.TheVariants.{File}

-- ---- bounds

pub wide_bound : (words : List ℕ) → Shaped (layout New) words → length words ≤ 19456 → (6 ≤ length words) × (6 + block_count words * 11 + instruction_count words * 7 ≤ 19456)
unfolding end_at identifiers_at places_at cases_at instructions_at block_count instruction_count word
wide_bound words s p = (s.head, omega (arith, s.long))

-- ---- what was written, or refused

module _ (words : List ℕ) (lent : ℕ) {answer : Placing} where
  -- widened words
  pub wide_accepted : accepted ≡ checked words → answer ≡ placed 53 lent (table_text words) → answer ≡ of_wide words lent
  unfolding moved unless_refused
  wide_accepted v e = rw (← v) e

  pub wide_refused : (code at : ℕ) → refused code at ≡ checked words
      → answer ≡ refusal code (old_place (block_count words) (instruction_count words) at) lent → answer ≡ of_wide words lent
  unfolding moved unless_refused
  wide_refused code at v e = rw (← v) e

  -- words of the new form
  pub new_refused : (code at : ℕ) → refused code at ≡ checked words → answer ≡ refusal code at lent → answer ≡ old_of_new words lent
  unfolding old_of_new and_then unless_refused
  new_refused code at v e = rw (← v) e

  pub new_apart : (at : ℕ) → accepted ≡ checked words → refused 52 at ≡ spans_verdict words → answer ≡ refusal 52 at lent → answer ≡ old_of_new words lent
  unfolding old_of_new and_then unless_refused
  new_apart at v spans e = rw (← v, ← spans) e

  pub new_accepted : accepted ≡ checked words → accepted ≡ spans_verdict words → answer ≡ placed 53 lent (text_in (layout New) (layout Old) words) → answer ≡ old_of_new words lent
  unfolding old_of_new old_text and_then unless_refused
  new_accepted v spans e = rw (← v, ← spans) e

-- ---- what was read

module _ (f : Layout) (file lent : List ℕ) (room count : ℕ) (h : Answered f file room lent (Ok count)) where
  -- a file has at most 16,384 words
  pub words_few : length h.0 ≤ 16384
  words_few = omega (arith, good_room f file h.0 h.1.good, h.1.short)

  pub of_words : (of : List ℕ → ℕ → Placing) (space : ℕ) (d : Placing) → d ≡ of (take count lent) space → d ≡ of_reading of space (reading f file)
  unfolding of_reading
  of_words of space d e = rw (accepted_reads f file h.0 h.1) (e ∙ ap (λ (words : List ℕ). of words space) (words_read f file lent room count h))

-- there is always room for the words, so no other error is left
pub of_error : (f : Layout) (of : List ℕ → ℕ → Placing) (file lent : List ℕ) (room space : ℕ) (error : ReadError) (d : Placing) → 16384 ≤ room
    → Answered f file room lent (Err error) → d ≡ refusal (answer.code_of error) (answer.place_of error) space → d ≡ of_reading of space (reading f file)
unfolding of_reading
of_error f of file lent room space error d p h e = rw (refusal_refuses f file _ _ (room_enough f file lent room error p h)) e

-- a file that is not read, in either form
pub not_read : (version : Version) (file lent text : List ℕ) (room : ℕ) (error : ReadError) → 16384 ≤ room → Answered (layout version) file room lent (Err error)
    → cleared (Err (File error)) text ≡ conversion version file (length text)
unfolding cleared_by old_to_new new_to_old
not_read Old file lent text room error p h = of_error (layout Old) new_of_old file lent room (length text) error _ p h refl
not_read New file lent text room error p h = of_error (layout New) old_of_new file lent room (length text) error _ p h refl
