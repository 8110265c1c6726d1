-- Whether a list is a permutation, by the first of its words that another stands in the way of; and the new numbers by one.
use mathlib.Core.Path.{◌≡◌, refl, sym, ◌∙◌, subst}
use Prim.Native.Nat.{ℕ, ◌+◌, ◌<◌, ◌≤◌}
use native.Mathlib.Omega.{arith}
use native.Mathlib.Numerals.{add-one}
use mathlib.Core.List.{List}
use mathlib.Core.Bool.{Bool, true, false}
use lib.ListN.{length, get_or, take, set, length-set}
use lib.Seq.{take-suc, take_all, length-take-le, get_or-take, get_or-set_same, get_or-set_other}
use borrow.Author.Tests.{eq-eqb}
use Rattle.renaming.specs.Order.{is_permutation, new_number}
use Rattle.renaming.proofs.Permutations.{both_and, by_equal, Permutes, permutes, place_in, in_place, once_at}
use Rattle.order.specs.Queue.{Queued, Numbers}
use Rattle.order.proofs.QueueLaws.{is_found, queued_more}

-- it is none where a permutation cannot be
refuted : (n : ℕ) (list : List ℕ) → (Permutes n list → ⊥) → false ≡ is_permutation n list
refuted n list f = by (is_permutation n list) refl
  where
    by : (y : Bool) → is_permutation n list ≡ y → false ≡ is_permutation n list
    by true e = absurd (f (permutes n list e))
    by false e = sym e

pub wrong_length : (n : ℕ) (list : List ℕ) → (length list ≡ n → ⊥) → false ≡ is_permutation n list
wrong_length n list f = refuted n list (λ p. f p.long)

pub no_block : (n : ℕ) (list : List ℕ) (i : ℕ) → i < length list → n ≤ get_or list i 0 → false ≡ is_permutation n list
no_block n list i h l = refuted n list (λ p. omega (arith, p.below (get_or list i 0) (in_place list i 0 h)))

-- the words before i are blocks, none of them twice
module _ (n : ℕ) (list : List ℕ) (i : ℕ) {found : List Bool} (q : Queued n (take i list) found) (narrow : n ≤ 1024) (long : length list ≡ n) where
  pub stands_twice : i < length list → get_or list i 0 < n → get_or found (get_or list i 0) false ≡ true → false ≡ is_permutation n list
  stands_twice h inside e = refuted n list twice
    where
      twice : Permutes n list → ⊥
      twice p =
          let s = place_in (get_or list i 0) 0 (take i list) (is_found q (get_or list i 0) inside narrow e) in
          let less : s.0 < i = omega (arith, s.2, length-take-le i list (omega arith)) in
          let same : get_or list s.0 0 ≡ get_or list i 0 = sym (get_or-take i list s.0 0 less) ∙ s.3 0 in
          let e : s.0 ≡ i = once_at list s.0 i 0 p.once (omega arith) h same in
          omega (arith, e)

  pub stands_first : i < length list → get_or list i 0 < n → get_or found (get_or list i 0) false ≡ false → Queued n (take (i + 1) list) (set found (get_or list i 0) true)
  stands_first h inside e = rw (add-one i, take-suc list i 0 h) (queued_more q (get_or list i 0) inside narrow e)

  pub stands_once : length list ≤ i → true ≡ is_permutation n list
  unfolding is_permutation
  stands_once all =
      let e : take i list ≡ list = take_all i list all in
      sym (both_and (eq-eqb (length list) n long) (both_and (rw e at q.below) (rw e at q.once)))

-- ---- the new numbers

-- the blocks before the place i have their numbers
pub record Numbered (list new : List ℕ) (i : ℕ) : Type 0 where
  pub wide : length new ≡ 1024
  pub are : (j : ℕ) → j < i → get_or new (get_or list j 0) 0 ≡ j

pub numbered_none : (list : List ℕ) {new : List ℕ} → length new ≡ 1024 → Numbered list new 0
numbered_none list wide = record { wide = wide; are = λ j h. absurd (omega arith) }

module _ (list : List ℕ) (few : length list ≤ 1024) (is : is_permutation (length list) list ≡ true) where
  perm : Permutes (length list) list
  perm = permutes (length list) list is

  pub block_small : (i : ℕ) → i < length list → get_or list i 0 < 1024
  block_small i h = omega (arith, perm.below (get_or list i 0) (in_place list i 0 h))

  pub numbered_next : (i : ℕ) {new : List ℕ} → i < length list → Numbered list new i → Numbered list (set new (get_or list i 0) i) (i + 1)
  numbered_next i {new} h m = record {
    wide = length-set new (get_or list i 0) i ∙ m.wide;
    are = λ j l. by_equal j i
        (λ z. subst (λ (x : ℕ). get_or (set new (get_or list i 0) i) (get_or list x 0) 0 ≡ x) (sym z)
        (get_or-set_same new (get_or list i 0) i 0 (omega (arith, block_small i h, m.wide))))
        (λ f. get_or-set_other new (get_or list i 0) (get_or list j 0) i 0 (λ e. f (once_at list j i 0 perm.once (omega arith) h e)) ∙ m.are j (omega (arith, f)));
  }

  pub numbered_all : {i : ℕ} {new : List ℕ} → length list ≤ i → Numbered list new i → Numbers list new
  unfolding new_number
  numbered_all {i} {new} h m = record {
    wide = m.wide;
    are = λ b l.
        let s = place_in b 0 list (perm.all b l) in
        let e : new_number list b ≡ s.0 = s.1 ∙ omega arith in
        subst (λ (x : ℕ). get_or new x 0 ≡ new_number list b) (s.3 0) (m.are s.0 (omega (arith, s.2, h)) ∙ sym e);
  }
