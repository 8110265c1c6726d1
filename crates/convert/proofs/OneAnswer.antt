-- What the converters give is what `Converted` says of a file that is good or refused, and nothing else is.
use Prim.Native.Nat.{ℕ}
use mathlib.Core.Path.{◌≡◌, refl, sym, ◌∙◌}
use mathlib.Core.Logic.{inl, inr, ⊎_elim}
use mathlib.Core.List.{List}
use Rattle.text.specs.Layout.{Layout}
use Rattle.text.specs.Reading.{Reading, reads, refuses, reading}
use Rattle.text.specs.Placed.{Placing}
use Rattle.text.proofs.ReadingLaws.{Says, reading_says, accepted_reads, refusal_refuses}
use Rattle.convert.specs.Convert.{of_reading, OfWords, OfRefusal, Converted}

module _ (f : Layout) (of : List ℕ → ℕ → Placing) (file : List ℕ) (lent : ℕ) where
  converted_by : (r : Reading) → Says f file r → Converted f of file lent (of_reading of lent r)
  unfolding of_reading
  converted_by (reads words) a = inl (record { words = words; accepted = a; is = refl })
  converted_by (refuses code at) s = inr (record { code = code; at = at; refused = s; is = refl })

  pub converted_so : Converted f of file lent (of_reading of lent (reading f file))
  converted_so = converted_by (reading f file) (reading_says f file)

  pub converted_is : (answer : Placing) → Converted f of file lent answer → answer ≡ of_reading of lent (reading f file)
  unfolding of_reading
  converted_is answer c =
      ⊎_elim
      (λ (w : OfWords f of file lent answer). rw (accepted_reads f file w.words w.accepted) w.is)
      (λ (r : OfRefusal f file lent answer). rw (refusal_refuses f file r.code r.at r.refused) r.is)
      c

  pub converted_one : (a b : Placing) → Converted f of file lent a → Converted f of file lent b → a ≡ b
  converted_one a b p q = converted_is a p ∙ sym (converted_is b q)
