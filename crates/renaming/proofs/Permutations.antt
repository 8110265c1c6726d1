-- A list of old numbers that is a permutation stands for a renaming.
use mathlib.Core.Path.{◌≡◌, refl, sym, ap, ◌∙◌, subst}
use Prim.Native.Nat.{ℕ, zero, suc, ◌+◌, ◌<◌, ◌≤◌}
use native.Mathlib.Omega.{arith}
use native.Mathlib.Decide.{ℕ_discrete}
use mathlib.Core.List.{List, [], ◌∷◌}
use mathlib.Core.Bool.{Bool, true, false, not, ◌&&◌, ◌||◌}
use lib.ListN.{length, get_or, get_or-eq_default}
use lib.Dec.{eqb, ltb}
use borrow.Author.Tests.{eq-eqb, ne_eqb, eqb-true, ltb-true, ltb-false, not-true}
use Rattle.table.specs.Table.{rows_from}
use Rattle.table.proofs.BlockLaws.{length_rows}
use Rattle.definition.specs.Completion.{contains}
use Rattle.definition.proofs.Steps.{true_false}
use Rattle.tree_grammar.proofs.Upto.{and_both}
use Rattle.renaming.specs.Renaming.{Renaming}
use Rattle.renaming.specs.Order.{all_below, none_twice, is_permutation, old_number, place_from, new_number}

pub both_and : {x y : Bool} → x ≡ true → y ≡ true → x && y ≡ true
both_and e h = rw (e, h)

pub by_equal : {A : Type 0} (a b : ℕ) → (a ≡ b → A) → ((a ≡ b → ⊥) → A) → A
by_equal a b f g = elim (ℕ_discrete a b) [ yes h ↦ f h | no h ↦ g h ]

pub pick_true : {A : Type 0} (y : Bool) (a b : A) → y ≡ true → elim y [ true ↦ a | false ↦ b ] ≡ a
pick_true true a b e = refl
pick_true false a b e = absurd (true_false (sym e))

pub pick_false : {A : Type 0} (y : Bool) (a b : A) → y ≡ false → elim y [ true ↦ a | false ↦ b ] ≡ b
pick_false true a b e = absurd (true_false e)
pick_false false a b e = refl

-- ---- membership

pub in_head : (x : ℕ) (l : List ℕ) → contains (x ∷ l) x ≡ true
in_head x l = rw (eq-eqb x x refl)

pub in_tail : (x b : ℕ) (l : List ℕ) → contains l b ≡ true → contains (x ∷ l) b ≡ true
in_tail x b l h = by (eqb x b)
  where
    by : (y : Bool) → y || contains l b ≡ true
    by true = refl
    by false = h

pub in_other : (x b : ℕ) (l : List ℕ) → (x ≡ b → ⊥) → contains (x ∷ l) b ≡ contains l b
in_other x b l f = rw (ne_eqb x b f)

-- what holds of the head, and of what the rest contains, holds of what the list contains
pub in_cases : {A : Type 0} (x b : ℕ) (l : List ℕ) → contains (x ∷ l) b ≡ true → (x ≡ b → A) → (contains l b ≡ true → A) → A
in_cases x b l h f g = by_equal x b f (λ q. g (sym (in_other x b l q) ∙ h))

-- ---- a number taken out

abbrev without : ℕ → List ℕ → List ℕ
without x [] = []
without x (y ∷ l) = elim (eqb y x) [ true ↦ without x l | false ↦ y ∷ without x l ]

without_same : (x y : ℕ) (l : List ℕ) → y ≡ x → without x (y ∷ l) ≡ without x l
without_same x y l e = pick_true (eqb y x) (without x l) (y ∷ without x l) (eq-eqb y x e)

without_other : (x y : ℕ) (l : List ℕ) → (y ≡ x → ⊥) → without x (y ∷ l) ≡ y ∷ without x l
without_other x y l f = pick_false (eqb y x) (without x l) (y ∷ without x l) (ne_eqb y x f)

without_keeps : (x b : ℕ) (l : List ℕ) → (b ≡ x → ⊥) → contains l b ≡ true → contains (without x l) b ≡ true
without_keeps x b [] f h = h
without_keeps x b (y ∷ l) f h =
    by_equal y x
    (λ e. rw (without_same x y l e) (without_keeps x b l f (in_cases y b l h (λ q. absurd (f (sym q ∙ e))) (λ q. q))))
    (λ q. rw (without_other x y l q) (in_cases y b l h (λ e. rw e (in_head b (without x l))) (λ k. in_tail y b (without x l) (without_keeps x b l f k))))

without_short : (x : ℕ) (l : List ℕ) → length (without x l) ≤ length l
without_short x [] = omega arith
without_short x (y ∷ l) =
    by_equal y x (λ e. rw (without_same x y l e) (omega (arith, without_short x l))) (λ f. rw (without_other x y l f) (omega (arith, without_short x l)))

without_shorter : (x : ℕ) (l : List ℕ) → contains l x ≡ true → length (without x l) < length l
without_shorter x [] h = absurd (true_false (sym h))
without_shorter x (y ∷ l) h =
    by_equal y x (λ e. rw (without_same x y l e) (omega (arith, without_short x l)))
    (λ f. rw (without_other x y l f) (let q : length (without x l) < length l = without_shorter x l (sym (in_other y x l f) ∙ h) in omega arith))

-- a list with no number twice is at most as long as one that contains all its numbers
pub fits_in : (l k : List ℕ) → none_twice l ≡ true → ((b : ℕ) → contains l b ≡ true → contains k b ≡ true) → length l ≤ length k
fits_in [] k h q = omega arith
fits_in (x ∷ l) k h q =
    let t : (not (contains l x) ≡ true) × (none_twice l ≡ true) = and_both (not (contains l x)) (none_twice l) h in
    let r : length l ≤ length (without x k) = fits_in l (without x k) t.1
    (λ b e. without_keeps x b k (λ z. true_false (sym e ∙ (ap (contains l) z ∙ not-true _ t.0))) (q b (in_tail x b l e))) in
    let s : length (without x k) < length k = without_shorter x k (q x (in_head x l)) in
    omega arith

-- ---- the numbers below n

pub in_rows : (first n b : ℕ) → first ≤ b → b < first + n → contains (rows_from first n) b ≡ true
in_rows first zero b h l = absurd (omega arith)
in_rows first (suc n) b h l = by_equal first b (λ e. rw e (in_head b (rows_from (suc b) n))) (λ f. in_tail first b (rows_from (suc first) n) (in_rows (suc first) n b (omega (arith, f)) (omega arith)))

pub rows_above : (first n b : ℕ) → b < first → contains (rows_from first n) b ≡ false
rows_above first zero b h = refl
rows_above first (suc n) b h = in_other first b (rows_from (suc first) n) (λ e. omega arith) ∙ rows_above (suc first) n b (omega arith)

pub rows_once : (first n : ℕ) → none_twice (rows_from first n) ≡ true
rows_once first zero = refl
rows_once first (suc n) = rw (rows_above (suc first) n first (omega arith)) (rows_once (suc first) n)

-- ---- a permutation

pub below_of : (n : ℕ) (l : List ℕ) → all_below n l ≡ true → (b : ℕ) → contains l b ≡ true → b < n
below_of n [] h b e = absurd (true_false (sym e))
below_of n (x ∷ l) h b e = in_cases x b l e (λ q. omega (arith, ltb-true x n (and_both (ltb x n) (all_below n l) h).0)) (λ q. below_of n l (and_both (ltb x n) (all_below n l) h).1 b q)

pub record Permutes (n : ℕ) (l : List ℕ) : Type 0 where
  pub long : length l ≡ n
  pub below : (b : ℕ) → contains l b ≡ true → b < n
  pub once : none_twice l ≡ true
  pub all : (b : ℕ) → b < n → contains l b ≡ true

-- as many numbers as blocks, each a block, none twice: then every block is there
pub permutes : (n : ℕ) (l : List ℕ) → is_permutation n l ≡ true → Permutes n l
unfolding is_permutation
permutes n l h =
    let s : (eqb (length l) n ≡ true) × _ = and_both _ _ h in
    let t : (all_below n l ≡ true) × (none_twice l ≡ true) = and_both _ _ s.1 in
    record { long = eqb-true _ _ s.0; below = below_of n l t.0; once = t.1; all = λ b q. by b q (contains l b) refl (eqb-true _ _ s.0) t.0 t.1 }
  where
    by : (b : ℕ) → b < n → (y : Bool) → contains l b ≡ y → length l ≡ n → all_below n l ≡ true → none_twice l ≡ true → contains l b ≡ true
    by b q true e long below once = e
    by b q false e long below once = absurd (omega (arith, length_rows 0 n, fits_in (b ∷ l) (rows_from 0 n) (both_and (ap not e) once) (λ c i. in_rows 0 n c (omega arith) (small c i))))
      where
        small : (c : ℕ) → contains (b ∷ l) c ≡ true → c < 0 + n
        small c i = in_cases b c l i (λ z. omega arith) (λ z. omega (arith, below_of n l below c z))

-- ---- the places of a list

module _ (b : ℕ) where
  pub place_in : (place : ℕ) (l : List ℕ) → contains l b ≡ true → (i : ℕ) × (place_from place l b ≡ place + i) × (i < length l) × ((d : ℕ) → get_or l i d ≡ b)
  place_in place [] h = absurd (true_false (sym h))
  place_in place (x ∷ l) h =
      by_equal x b (λ e. (0, pick_true (eqb x b) place (place_from (suc place) l b) (eq-eqb x b e) ∙ omega arith, omega arith, (λ d. e)))
      (λ f.
      let q : (i : ℕ) × (place_from (suc place) l b ≡ suc place + i) × (i < length l) × ((d : ℕ) → get_or l i d ≡ b) = place_in (suc place) l (sym (in_other x b l f) ∙ h) in
      (suc q.0, pick_false (eqb x b) place (place_from (suc place) l b) (ne_eqb x b f) ∙ omega (arith, q.1), omega (arith, q.2), q.3))

  pub place_out : (place : ℕ) (l : List ℕ) → contains l b ≡ false → place_from place l b ≡ b
  place_out place [] h = refl
  place_out place (x ∷ l) h =
      by_equal x b (λ e. absurd (true_false (sym (subst (λ (z : ℕ). contains (x ∷ l) z ≡ true) e (in_head x l)) ∙ h)))
      (λ f. pick_false (eqb x b) place (place_from (suc place) l b) (ne_eqb x b f) ∙ place_out (suc place) l (sym (in_other x b l f) ∙ h))

pub in_place : (l : List ℕ) (i d : ℕ) → i < length l → contains l (get_or l i d) ≡ true
in_place [] i d h = absurd (omega arith)
in_place (x ∷ l) zero d h = in_head x l
in_place (x ∷ l) (suc i) d h = in_tail x (get_or l i d) l (in_place l i d (omega arith))

-- no number stands at two places
pub once_at : (l : List ℕ) (i j d : ℕ) → none_twice l ≡ true → i < length l → j < length l → get_or l i d ≡ get_or l j d → i ≡ j
once_at [] i j d h p q e = absurd (omega arith)
once_at (x ∷ l) zero zero d h p q e = refl
once_at (x ∷ l) zero (suc j) d h p q e = absurd (true_false (sym (rw (← e) at (in_place l j d (omega arith))) ∙ not-true (contains l x) (and_both (not (contains l x)) (none_twice l) h).0))
once_at (x ∷ l) (suc i) zero d h p q e = absurd (true_false (sym (rw e at (in_place l i d (omega arith))) ∙ not-true (contains l x) (and_both (not (contains l x)) (none_twice l) h).0))
once_at (x ∷ l) (suc i) (suc j) d h p q e = ap suc (once_at l i j d (and_both (not (contains l x)) (none_twice l) h).1 (omega arith) (omega arith) e)

pub get_d_any : (l : List ℕ) (i d e : ℕ) → i < length l → get_or l i d ≡ get_or l i e
get_d_any [] i d e h = absurd (omega arith)
get_d_any (x ∷ l) zero d e h = refl
get_d_any (x ∷ l) (suc i) d e h = get_d_any l i d e (omega arith)

module _ (n : ℕ) (l : List ℕ) (p : Permutes n l) where
  old_new : (b : ℕ) → old_number l (new_number l b) ≡ b
  unfolding old_number new_number
  old_new b = by (contains l b) refl
    where
      by : (y : Bool) → contains l b ≡ y → get_or l (place_from 0 l b) (place_from 0 l b) ≡ b
      by true e =
          let q : (i : ℕ) × (place_from 0 l b ≡ 0 + i) × (i < length l) × ((d : ℕ) → get_or l i d ≡ b) = place_in b 0 l e in
          let z : place_from 0 l b ≡ q.0 = omega (arith, q.1) in
          rw z (q.3 q.0)
      by false e =
          let z : place_from 0 l b ≡ b = place_out b 0 l e in
          rw z (out (ltb b n) refl e)
        where
          out : (y : Bool) → ltb b n ≡ y → contains l b ≡ false → get_or l b b ≡ b
          out true u e = absurd (true_false (sym (p.all b (ltb-true _ _ u)) ∙ e))
          out false u e = get_or-eq_default l b (omega (arith, p.long, ltb-false b n u))

  new_old : (i : ℕ) → new_number l (old_number l i) ≡ i
  unfolding old_number new_number
  new_old i = by (ltb i n) refl
    where
      by : (y : Bool) → ltb i n ≡ y → place_from 0 l (get_or l i i) ≡ i
      by true e =
          let h : i < length l = omega (arith, p.long, ltb-true i n e) in
          let b : ℕ = get_or l i i in
          let q : (j : ℕ) × (place_from 0 l b ≡ 0 + j) × (j < length l) × ((d : ℕ) → get_or l j d ≡ b) = place_in b 0 l (in_place l i i h) in
          let s : q.0 ≡ i = once_at l q.0 i i p.once q.2 h (q.3 i) in
          omega (arith, q.1, s)
      by false e =
          let z : get_or l i i ≡ i = get_or-eq_default l i (omega (arith, p.long, ltb-false i n e)) in
          rw z (place_out i 0 l (out (contains l i) refl e))
        where
          out : (y : Bool) → contains l i ≡ y → ltb i n ≡ false → contains l i ≡ false
          out true u e = absurd (omega (arith, p.below i u, ltb-false i n e))
          out false u e = u

  pub renaming_of : Renaming n (new_number l) (old_number l)
  unfolding new_number
  renaming_of = record { old_new = old_new; new_old = new_old; beyond = λ b h. place_out b 0 l (out b h (contains l b) refl) }
    where
      out : (b : ℕ) → n ≤ b → (y : Bool) → contains l b ≡ y → contains l b ≡ false
      out b h true u = absurd (omega (arith, p.below b u))
      out b h false u = u
