-- The round trips from what a caller sees: code 0 is "not refused" and "given room".
use Prim.Native.Nat.{ℕ, ◌≤◌}
use mathlib.Core.Path.{◌≡◌, ap}
use mathlib.Core.List.{List}
use lib.ListN.{length}
use Rattle.table.proofs.RowLaws.{both}
use Rattle.text.specs.Layout.{layout}
use Rattle.text.specs.Reading.{Reading, reads, refuses, reading}
use Rattle.text.specs.Placed.{Placing, refusal}
use Rattle.text.specs.declared.version.Version.TheVariants.{Old, New}
use Rattle.text.proofs.PrintsLaws.{refusal_some}
use Rattle.text.proofs.ReadingLaws.{Says, reading_says}
use Rattle.convert.specs.Write.{table_text}
use Rattle.convert.proofs.GoodLaws.{good_shaped}
use Rattle.convert.specs.Widen.{widened}
use Rattle.convert.specs.Convert.{new_of_old, old_of_new, of_reading, old_to_new, new_to_old}
use Rattle.convert.proofs.RoundTrip.{new_wholly, old_new_old, new_old_new}
use Rattle.convert.specs.Convert.{text_of_answer, wholly}
use Rattle.convert.proofs.CodeLaws.{new_zero, old_zero}

refused_zero : (of : List ℕ → ℕ → Placing) (lent code at : ℕ) → (of_reading of lent (refuses code at)).code ≡ 0 → code ≡ 0
unfolding of_reading refusal
refused_zero of lent code at e = e

read_zero : (of : List ℕ → ℕ → Placing) (lent : ℕ) (words : List ℕ) → (of_reading of lent (reads words)).code ≡ 0 → (of words lent).code ≡ 0
unfolding of_reading
read_zero of lent words e = e

new_coded : (file : List ℕ) (lent : ℕ) → (old_to_new file lent).code ≡ 0 → (of_reading new_of_old lent (reading (layout Old) file)).code ≡ 0
unfolding old_to_new
new_coded file lent z = z

old_coded : (file : List ℕ) (lent : ℕ) → (new_to_old file lent).code ≡ 0 → (of_reading old_of_new lent (reading (layout New) file)).code ≡ 0
unfolding new_to_old
old_coded file lent z = z

-- "old to new to old gives again any old text that is not refused where the new one is at most 32,768 bytes"
pub old_again : (file : List ℕ) (lent lent' : ℕ) → (old_to_new file lent).code ≡ 0 → (old_to_new file lent).length ≤ 32768 → length file ≤ lent'
    → new_to_old (text_of_answer (old_to_new file lent)) lent' ≡ wholly lent' file
old_again file lent lent' zero short room' = by (reading (layout Old) file) (reading_says (layout Old) file) (new_coded file lent zero)
  where
    by : (r : Reading) → Says (layout Old) file r → (of_reading new_of_old lent r).code ≡ 0 → new_to_old (text_of_answer (old_to_new file lent)) lent' ≡ wholly lent' file
    by (reads words) a z =
        let fits = new_zero words lent (good_shaped Old file words a.good) (read_zero new_of_old lent words z) in
        let given : old_to_new file lent ≡ wholly lent (table_text (widened words)) = new_wholly file words lent a fits.0 fits.1 in
        let few : length (table_text (widened words)) ≤ 32768 = rw (ap (λ (p : Placing). p.length) given) at short in
        (old_new_old file words a lent lent' fits.0 few fits.1 room').1
    by (refuses code at) r z = absurd (refusal_some r (refused_zero new_of_old lent code at z))

-- "and new to old to new gives the new text where it was possible"
pub new_again : (file : List ℕ) (lent lent' : ℕ) → (new_to_old file lent).code ≡ 0 → length file ≤ lent' → old_to_new (text_of_answer (new_to_old file lent)) lent' ≡ wholly lent' file
new_again file lent lent' zero room' = by (reading (layout New) file) (reading_says (layout New) file) (old_coded file lent zero)
  where
    by : (r : Reading) → Says (layout New) file r → (of_reading old_of_new lent r).code ≡ 0 → old_to_new (text_of_answer (new_to_old file lent)) lent' ≡ wholly lent' file
    by (reads words) a z =
        let fits = old_zero words lent (read_zero old_of_new lent words z) in
        let agreed = both _ _ fits.0 in
        (new_old_new file words a agreed.0 agreed.1 lent lent' fits.1 room').1
    by (refuses code at) r z = absurd (refusal_some r (refused_zero old_of_new lent code at z))
