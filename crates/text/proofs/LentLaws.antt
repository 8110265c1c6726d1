-- Laws of a lent buffer.
use mathlib.Core.Path.{◌≡◌, refl, sym, ap, ◌∙◌}
use mathlib.Core.List.{List, [], ◌∷◌, ◌++◌}
use mathlib.Core.Bool.{Bool, true, false}
use Prim.Native.Nat.{ℕ, suc, ◌+◌, ◌-◌, ◌≤◌, ◌<◌}
use native.Mathlib.Omega.{arith}
use native.Mathlib.Nat.{sub-zero}
use native.Mathlib.Numerals.{add-one}
use lib.Dec.{ltb}
use lib.ListN.{length, take, set, replicate, length-append, length-set}
use lib.Seq.{take_all, take-suc-set, take-append-le, set_out}
use borrow.Author.Tests.{ltb-true, ltb-false}
use Rattle.text.specs.Lent.{Holds, padded}

-- nothing is held at first
pub holds_none : {A : Type 0} (b : List A) → Holds b 0 []
holds_none b = record { counted = refl; held = sym (take_all (length b) [] (omega arith)) }

module _ {A : Type 0} (b : List A) (n : ℕ) (v : A) (items : List A) (h : Holds b n items) where
  put_by : (fits : Bool) → ltb n (length b) ≡ fits → take (suc n) (set b n v) ≡ take (length (set b n v)) (items ++ (v ∷ []))
  put_by true e =
      let p : n < length b = ltb-true n (length b) e in
      let l = h.counted in
      let s : length (set b n v) ≡ length b = length-set b n v in
      take-suc-set b n v p
      ∙ ap (λ (l : List A). l ++ (v ∷ [])) (h.held ∙ take_all (length b) items (omega arith))
      ∙ sym (take_all (length (set b n v)) (items ++ (v ∷ [])) (omega (arith, length-append items (v ∷ []))))
  put_by false e =
      let p : length b ≤ n = ltb-false n (length b) e in
      let l = h.counted in
      rw (set_out b n v p) (take_all (suc n) b (omega arith) ∙ sym (take_all n b p) ∙ h.held ∙ sym (take-append-le (length b) items (v ∷ []) (omega arith)))

  -- an item more, which is stored if there is a place for it
  pub holds_put : Holds (set b n v) (n + 1) (items ++ (v ∷ []))
  holds_put = record {
    counted = length-append items (v ∷ []) ∙ ap (λ (k : ℕ). k + 1) h.counted;
    held = rw (add-one n) (put_by (ltb n (length b)) refl);
  }

-- what is held, if it fits
pub holds_all : (b : List ℕ) (n : ℕ) (items : List ℕ) → Holds b n items → n ≤ length b → take n b ≡ items
holds_all b n items h p = h.held ∙ take_all (length b) items (omega (arith, h.counted))

-- ---- clearing a buffer from an index on

-- a buffer that is cleared whole
pub cleared_zeros : (b₀ b : List ℕ) (room : ℕ) → length b₀ ≡ room → b ≡ take 0 b₀ ++ replicate (length b₀ - 0) 0 → b ≡ replicate room 0
cleared_zeros b₀ b room p e = e ∙ rw (sub-zero (length b₀), p)

-- a buffer that is cleared after what it holds
pub cleared_padded : (b₀ b items : List ℕ) (n room : ℕ) → length b₀ ≡ room → Holds b₀ n items → n ≤ length b₀ → b ≡ take n b₀ ++ replicate (length b₀ - n) 0 → b ≡ padded room items
cleared_padded b₀ b items n room p h q e = e ∙ rw (holds_all b₀ n items h q, p, h.counted)
