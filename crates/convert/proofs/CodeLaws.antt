-- The codes of the converters: 53 comes from a buffer that is too short, and from nothing else. So it does not come where the buffer is long enough.
use Prim.Native.Nat.{ℕ, zero, suc, ◌+◌, ◌-◌, ◌≤◌, ◌<◌}
use mathlib.Core.Path.{◌≡◌, refl, ap}
use mathlib.Core.Bool.{Bool, true, false}
use mathlib.Core.Logic.{⊎_elim}
use mathlib.Core.List.{List, [], ◌∷◌}
use native.Mathlib.Omega.{arith}
use lib.Dec.{leb, ltb, eqb}
use lib.ListN.{length}
use borrow.Author.Tests.{leb-true}
use Rattle.table.specs.Words.{word, entry_word, block_count, words_needed}
use Rattle.table.specs.Check.{Verdict, accepted, refused, Rule, fits, and_then, row_verdict, rows_verdict, words_verdict, limits, counts_verdict, checked}
use Rattle.text.specs.Layout.{Layout, layout}
use Rattle.text.specs.Lent.{padded}
use Rattle.text.specs.Answer.{Refusal}
use Rattle.text.specs.Reading.{Reading, reads, refuses, reading}
use Rattle.text.specs.Placed.{Placing, refusal, placed, Holding}
use Rattle.text.specs.declared.version.Version.TheVariants.{Old, New}
use Rattle.text.proofs.ReadingLaws.{Says, reading_says}
use Rattle.text.proofs.PlacedLaws.{placed_fits, holding_refusal, holding_placed}
use Rattle.convert.specs.Cut.{Shaped}
use Rattle.convert.specs.Write.{table_text, unless_refused}
use Rattle.convert.proofs.GoodLaws.{good_shaped, good_is_text}
use Rattle.convert.specs.OldCheck.{old_checked}
use Rattle.convert.specs.Widen.{widened}
use Rattle.convert.specs.Convert.{ends_agree, spans_verdict, new_of_old, old_text, old_of_new, of_reading, old_to_new, new_to_old}
use Rattle.convert.specs.Parts.{moved}
use Rattle.convert.proofs.LengthLaws.{old_shorter, new_most}
use Rattle.convert.proofs.OldCheckLaws.{checked_moved}

-- a refusal's code is neither 0 nor 53
abbrev Other : Verdict → Type 0
Other accepted = Unit {0}
Other (refused code at) = (0 < code) × (code < 53)

then_other : (first next : Verdict) → Other first → Other next → Other (and_then first next)
unfolding and_then
then_other accepted next p q = q
then_other (refused code at) next p q = p

row_other : (ws : List ℕ) (at : ℕ) (rules : List Rule) → Other (row_verdict ws at rules)
unfolding row_verdict
row_other ws at [] = tt
row_other ws at (rule ∷ rules) = by (fits rule (word ws at)) (row_other ws (suc at) rules)
  where
    by : (b : Bool) → Other (row_verdict ws (suc at) rules) → Other (elim b [ true ↦ row_verdict ws (suc at) rules | false ↦ refused 4 at ])
    by true h = h
    by false h = (omega arith, omega arith)

rows_other : (ws : List ℕ) (rules : ℕ → List Rule) (at first count : ℕ) → Other (rows_verdict ws rules at first count)
unfolding rows_verdict
rows_other ws rules at first zero = tt
rows_other ws rules at first (suc count) = then_other _ _ (row_other ws at (rules first)) (rows_other ws rules (at + length (rules first)) (suc first) count)

words_other : (ws : List ℕ) → Other (words_verdict ws)
unfolding words_verdict
words_other ws =
    then_other _ _ (rows_other ws _ _ _ _) (then_other _ _ (rows_other ws _ _ _ _) (then_other _ _ (rows_other ws _ _ _ _) (then_other _ _ (rows_other ws _ _ _ _) (rows_other ws _ _ _ _))))

counts_other : (ws : List ℕ) (at : ℕ) (limits : List ℕ) → Other (counts_verdict ws at limits)
unfolding counts_verdict
counts_other ws at [] = tt
counts_other ws at (limit ∷ limits) = by (leb (word ws at) limit) (counts_other ws (suc at) limits)
  where
    by : (b : Bool) → Other (counts_verdict ws (suc at) limits) → Other (elim b [ true ↦ counts_verdict ws (suc at) limits | false ↦ refused 2 at ])
    by true h = h
    by false h = (omega arith, omega arith)

checked_other : (ws : List ℕ) → Other (checked ws)
unfolding checked
checked_other ws = by (ltb (length ws) 6) (counts_verdict ws 1 limits) (eqb (length ws) (words_needed ws)) (ltb (entry_word ws) (block_count ws)) (counts_other ws 1 limits)
  where
    by : (short : Bool) (v : Verdict) (exact enters : Bool) → Other v
        → Other (elim short [
          | true ↦ refused 1 0
          | false ↦ elim v [ refused code at ↦ refused code at | accepted ↦ elim exact [ false ↦ refused 1 0 | true ↦ elim enters [ false ↦ refused 3 0 | true ↦ words_verdict ws ] ] ]
        ])
    by true v exact enters h = (omega arith, omega arith)
    by false (refused code at) exact enters h = h
    by false accepted false enters h = (omega arith, omega arith)
    by false accepted true false h = (omega arith, omega arith)
    by false accepted true true h = words_other ws

ends_other : (ws : List ℕ) (width at count : ℕ) → Other (ends_agree ws width at count)
unfolding ends_agree
ends_other ws width at zero = tt
ends_other ws width at (suc count) = by (eqb (word ws (at + (width - 2))) (word ws (at + (width - 1)))) (ends_other ws width (at + width) count)
  where
    by : (b : Bool) → Other (ends_agree ws width (at + width) count) → Other (elim b [ true ↦ ends_agree ws width (at + width) count | false ↦ refused 52 (at + (width - 1)) ])
    by true h = h
    by false h = (omega arith, omega arith)

moved_other : (back : ℕ → ℕ) (v : Verdict) → Other v → Other (moved back v)
unfolding moved
moved_other back accepted h = h
moved_other back (refused code at) h = h

-- ---- with room there is no 53

placed_other : (v : Verdict) (lent : ℕ) (text : List ℕ) → Other v → length text ≤ lent → (unless_refused v lent text).code < 53
unfolding unless_refused refusal
placed_other accepted lent text h p = rw (placed_fits 53 lent text p) (omega arith)
placed_other (refused code at) lent text h p = h.1

-- 50 and 51
refusal_other : (code at lent : ℕ) → code < 53 → (refusal code at lent).code < 53
unfolding refusal
refusal_other code at lent p = p

code_other : {f : Layout} {file : List ℕ} {code at : ℕ} → Refusal f file code at → code < 53
code_other r = ⊎_elim (λ u. omega (arith, u.0)) (λ u. omega (arith, u.0)) r

old_other : (words : List ℕ) → Shaped (layout Old) words → Other (old_checked words)
old_other words shaped = rw (checked_moved words shaped) (moved_other _ (checked (widened words)) (checked_other (widened words)))

new_other : (words : List ℕ) → Other (and_then (checked words) (spans_verdict words))
unfolding spans_verdict
new_other words = then_other _ _ (checked_other words) (then_other _ _ (ends_other words 11 _ _) (ends_other words 7 _ _))

new_by : (words : List ℕ) (lent : ℕ) → Other (old_checked words) → length (table_text (widened words)) ≤ lent → (new_of_old words lent).code < 53
unfolding new_of_old
new_by words lent o p = placed_other (old_checked words) lent (table_text (widened words)) o p

old_by : (words : List ℕ) (lent : ℕ) → length (old_text words) ≤ lent → (old_of_new words lent).code < 53
unfolding old_of_new
old_by words lent p = placed_other (and_then (checked words) (spans_verdict words)) lent (old_text words) (new_other words) p

-- 65,542 bytes are enough for the new text of any old file
pub new_fits : (file : List ℕ) (lent : ℕ) → 65542 ≤ lent → (old_to_new file lent).code < 53
unfolding old_to_new of_reading
new_fits file lent p = by (reading (layout Old) file) (reading_says (layout Old) file)
  where
    by : (r : Reading) → Says (layout Old) file r → (of_reading new_of_old lent r).code < 53
    by (reads words) a =
        let shaped = good_shaped Old file words a.good in
        new_by words lent (old_other words shaped) (omega (arith, p, new_most words shaped, ap (λ (l : List ℕ). length l) (good_is_text Old file words a.good), a.short))
    by (refuses code at) r = refusal_other code at lent (code_other r)

-- and 32,768 for the old text of any new one
pub old_fits : (file : List ℕ) (lent : ℕ) → 32768 ≤ lent → (new_to_old file lent).code < 53
unfolding new_to_old of_reading
old_fits file lent p = by (reading (layout New) file) (reading_says (layout New) file)
  where
    by : (r : Reading) → Says (layout New) file r → (of_reading old_of_new lent r).code < 53
    by (reads words) a = old_by words lent (omega (arith, p, old_shorter words, ap (λ (l : List ℕ). length l) (good_is_text New file words a.good), a.short))
    by (refuses code at) r = refusal_other code at lent (code_other r)

-- ---- code 0: the words are not refused, and their text fits

abbrev placed_by : (lent : ℕ) → (text : List ℕ) → Bool → Placing
placed_by lent text fits = elim fits [ true ↦ record { code = 0; at = 0; length = length text; buffer = padded lent text } | false ↦ refusal 53 0 lent ]

refused_some : (v : Verdict) (lent : ℕ) (text : List ℕ) → Other v → (unless_refused v lent text).code ≡ 0 → (v ≡ accepted) × (length text ≤ lent)
unfolding unless_refused placed refusal
refused_some (refused code at) lent text o e = absurd (omega (arith, o, e))
refused_some accepted lent text o e = (refl, by (leb (length text) lent) refl e)
  where
    by : (fits : Bool) → leb (length text) lent ≡ fits → (placed_by lent text fits).code ≡ 0 → length text ≤ lent
    by true e z = leb-true (length text) lent e
    by false e z = absurd (omega (arith, z))

pub new_zero : (words : List ℕ) (lent : ℕ) → Shaped (layout Old) words → (new_of_old words lent).code ≡ 0
    → (old_checked words ≡ accepted) × (length (table_text (widened words)) ≤ lent)
unfolding new_of_old
new_zero words lent shaped e = refused_some (old_checked words) lent (table_text (widened words)) (old_other words shaped) e

pub old_zero : (words : List ℕ) (lent : ℕ) → (old_of_new words lent).code ≡ 0 → (and_then (checked words) (spans_verdict words) ≡ accepted) × (length (old_text words) ≤ lent)
unfolding old_of_new
old_zero words lent e = refused_some (and_then (checked words) (spans_verdict words)) lent (old_text words) (new_other words) e

-- ---- what the buffer holds

unless_holding : (v : Verdict) (lent : ℕ) (text : List ℕ) → Holding lent (unless_refused v lent text)
unfolding unless_refused
unless_holding accepted lent text = holding_placed 53 lent text
unless_holding (refused code at) lent text = holding_refusal code at lent

reading_holding : (of : List ℕ → ℕ → Placing) (lent : ℕ) → ((words : List ℕ) → Holding lent (of words lent)) → (r : Reading) → Holding lent (of_reading of lent r)
unfolding of_reading
reading_holding of lent holds (reads words) = holds words
reading_holding of lent holds (refuses code at) = holding_refusal code at lent

pub new_holding : (file : List ℕ) {lent : ℕ} {answer : Placing} → answer ≡ old_to_new file lent → Holding lent answer
unfolding old_to_new new_of_old
new_holding file {lent} {answer} e = rw e (reading_holding new_of_old lent (λ words. unless_holding (old_checked words) lent (table_text (widened words))) (reading (layout Old) file))

pub old_holding : (file : List ℕ) {lent : ℕ} {answer : Placing} → answer ≡ new_to_old file lent → Holding lent answer
unfolding new_to_old old_of_new
old_holding file {lent} {answer} e =
    rw e (reading_holding old_of_new lent (λ words. unless_holding (and_then (checked words) (spans_verdict words)) lent (old_text words)) (reading (layout New) file))
