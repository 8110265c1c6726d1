-- Laws of a line of names: what the form says where all the names stand in the file, and where they do not.
use mathlib.Core.Path.{◌≡◌, refl, sym, ◌∙◌}
use mathlib.Core.List.{List, [], ◌∷◌}
use mathlib.Core.Bool.{Bool, true, false, cond}
use Prim.Native.Nat.{ℕ, suc, ◌+◌, ◌-◌, ◌<◌, ◌≤◌}
use native.Mathlib.Omega.{arith}
use native.Mathlib.Nat.{add-zero}
use native.Mathlib.Numerals.{add-one}
use lib.Dec.{eqb, ltb}
use lib.ListN.{length, take, drop, get_or, length-drop, drop_of_length-le}
use lib.Seq.{drop-cons, take_all}
use borrow.Author.Tests.{ltb-true, ltb-false, eqb-true, eqb-false}
use Rattle.std.specs.Prelude.{nat_eq}
use Rattle.std.specs.List.{take_while, zip}
use Rattle.std.proofs.lemmas.List.Sums.{take_while-cons}
use Rattle.text.specs.Form.{Form, literal}
use Rattle.text.specs.Steps.{Reached, Stopped, NamesEnd, NamesRead}
use Rattle.text.proofs.StepLaws.{byte_taken, byte_other, byte_missing}
use Rattle.std.proofs.Common.{Err}

-- how many bytes the two begin with alike
abbrev alike : (names bytes : List ℕ) → ℕ
alike names bytes = length (take_while (λ p. nat_eq p.1 p.0) (zip names bytes))

alike_most : (names bytes : List ℕ) → alike names bytes ≤ length bytes
alike_most [] bytes = omega arith
alike_most (name ∷ names) [] = omega arith
alike_most (name ∷ names) (b ∷ bytes) = rw take_while-cons (by (eqb b name) (alike_most names bytes))
  where
    by : (y : Bool) → alike names bytes ≤ length bytes → length (cond y ((name, b) ∷ take_while (λ p. nat_eq p.1 p.0) (zip names bytes)) []) ≤ suc (length bytes)
    by true m = omega (arith, m)
    by false m = omega arith

-- k of so many names stand at a byte
record Went (root : Form) (file : List ℕ) (at : ℕ) (words : List ℕ) (next : Form) (all k : ℕ) : Type 0 where
  pub through : k ≡ all → Reached root file (at + k) words next
  pub stops : (k ≡ all → ⊥) → Stopped root file (at + k)

went : {root : Form} (names file : List ℕ) (at : ℕ) (words : List ℕ) (next : Form) → at ≤ length file → Reached root file at words (literal names next)
    → Went root file at words next (length names) (alike names (drop at file))
unfolding literal
went [] file at words next p h = record { through = λ _. rw (add-zero at) h; stops = λ f. absurd (f refl) }
went {root} (name ∷ names) file at words next p h = by (ltb at (length file)) refl (λ q r. went names file (at + 1) words next q r)
  where
    first : (at + 1 ≤ length file → Reached root file (at + 1) words (literal names next) → Went root file (at + 1) words next (length names) (alike names (drop (at + 1) file)))
        → at < length file → (y : Bool) → eqb (get_or file at 0) name ≡ y
        → Went root file at words next (suc (length names)) (length (cond y ((name, get_or file at 0) ∷ take_while (λ p. nat_eq p.1 p.0) (zip names (drop (suc at) file))) []))
    first more q true e =
        let w = rw (add-one at) at (more (omega arith) (byte_taken file at words name (literal names next) h q (eqb-true (get_or file at 0) name e))) in
        let along : at + suc (alike names (drop (suc at) file)) ≡ suc at + alike names (drop (suc at) file) = omega arith in
        record {
          through = λ z. rw along (w.through (omega (arith, z)));
          stops = λ f. rw along (w.stops (λ z. f (omega (arith, z))));
        }
    first more q false e = record {
      through = λ z. absurd (omega (arith, z));
      stops = λ _. rw (add-zero at) (byte_other file at words name (literal names next) h q (eqb-false (get_or file at 0) name e));
    }

    by : (y : Bool) → ltb at (length file) ≡ y
        → (at + 1 ≤ length file → Reached root file (at + 1) words (literal names next) → Went root file (at + 1) words next (length names) (alike names (drop (at + 1) file)))
        → Went root file at words next (suc (length names)) (alike (name ∷ names) (drop at file))
    by true e more =
        let q : at < length file = ltb-true at (length file) e in
        rw (drop-cons file at 0 q, take_while-cons) (first more q (eqb (get_or file at 0) name) refl)
    by false e more =
        let q : length file ≤ at = ltb-false at (length file) e in
        rw (drop_of_length-le file q) (record {
          through = λ z. absurd (omega (arith, z));
          stops = λ _. rw (add-zero at) (byte_missing file at words name (literal names next) h (omega arith));
        })

module _ (file names : List ℕ) (start : ℕ) {count : ℕ} (p : start ≤ length file) (e : count ≡ alike names (take (length file - start) (drop start file))) where
  counted : count ≡ alike names (drop start file)
  counted = rw (take_all (length file - start) (drop start file) (omega (arith, length-drop start file))) at e

  pub names_within : start + count ≤ length file
  names_within = omega (arith, counted, alike_most names (drop start file), length-drop start file)

  pub names_stand : count ≡ length names → NamesEnd file names start (start + count)
  names_stand z = record {
    within = names_within;
    onward = omega arith;
    reached = λ root words next h. rw counted ((went names file start words next p h).through (sym counted ∙ z));
  }

  pub names_stop : (count ≡ length names → ⊥) → NamesRead file names start (Err (start + count))
  names_stop f root words next h = rw counted ((went names file start words next p h).stops (λ z. f (counted ∙ z)))
