-- How many lent words are enough: half as many as the file has bytes, since each word takes two bytes at least; and 16,384 for any file, for a longer one is 51.
use Prim.Native.Nat.{ℕ, ◌+◌, ◌*◌, ◌≤◌}
use native.Mathlib.Omega.{arith}
use mathlib.Core.Path.{◌≡◌, refl}
use mathlib.Core.Bool.{Bool, true, false}
use mathlib.Core.List.{List}
use mathlib.Core.Logic.{⊎_elim}
use lib.Dec.{leb}
use lib.ListN.{length}
use borrow.Author.Tests.{leb-false}
use Rattle.text.specs.Layout.{layout}
use Rattle.text.specs.Lent.{padded}
use Rattle.text.specs.Reading.{Reading, reads, refuses, reading}
use Rattle.text.specs.declared.version.Version.TheVariants.{New}
use Rattle.text.proofs.AnswerLaws.{good_room}
use Rattle.text.proofs.ReadingLaws.{Says, reading_says}
use Rattle.convert.specs.Read.{WordsPlaced, refusal, placed_in, table_read}

abbrev Not54 : WordsPlaced → Type 0
Not54 w = w.code ≡ 54 → ⊥

module _ (file : List ℕ) (room : ℕ) where
  placed_enough : (length file ≤ 32768 → length file ≤ room * 2 + 1) → (r : Reading) → Says (layout New) file r → Not54 (placed_in room r)
  unfolding placed_in refusal
  placed_enough p (reads words) s = by (leb (length words) room) refl
    where
      by : (fits : Bool) → leb (length words) room ≡ fits
          → Not54 (elim fits [
            | true ↦ record { code = 0; at = 0; count = length words; lent = padded room words }
            | false ↦ refusal 54 0 room
          ])
      by true e = λ f. omega (arith, f)
      by false e = λ f. omega (arith, p s.short, good_room (layout New) file words s.good, leb-false (length words) room e)
  placed_enough p (refuses code at) s = λ f. ⊎_elim (λ w. omega (arith, w.0, f)) (λ w. omega (arith, w.0, f)) s

  read_enough : (length file ≤ 32768 → length file ≤ room * 2 + 1) → Not54 (table_read file room)
  unfolding table_read
  read_enough p = placed_enough p (reading (layout New) file) (reading_says (layout New) file)

  pub half_enough : length file ≤ room * 2 + 1 → (table_read file room).code ≡ 54 → ⊥
  half_enough p = read_enough (λ _. p)

  pub most_enough : 16384 ≤ room → (table_read file room).code ≡ 54 → ⊥
  most_enough p = read_enough (λ short. omega (arith, p, short))
