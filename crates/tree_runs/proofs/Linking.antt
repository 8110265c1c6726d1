-- Links that are made row by row are right: what is put for a later row does not touch the parts of an earlier one.
use mathlib.Core.Path.{◌≡◌, refl, sym, ap, ◌∙◌, subst}
use mathlib.Core.Logic.{◌⊎◌, inl, inr}
use mathlib.Core.Option.{Option, none, some}
use Prim.Native.Nat.{ℕ, suc, ◌+◌, ◌≤◌, ◌<◌}
use native.Mathlib.Omega.{arith}
use native.Mathlib.Nat.{le_refl, zero-add}
use mathlib.Core.Bool.{Bool, true, false}
use lib.Dec.{eqb}
use borrow.Author.Tests.{ne_eqb, eq-eqb, eqb-true, eqb-false}
use Rattle.definition.specs.Tree.{Row}
use Rattle.tree_runs.specs.Links.{Links, parts_of, Parts, no_part, a_part, Linked, put, with_part, with_row}

put_there : {A : Type 0} (f : ℕ → A) (i : ℕ) (v : A) → put f i v i ≡ v
unfolding put
put_there f i v = ap (λ (y : Bool). elim y [ true ↦ v | false ↦ f i ]) (eq-eqb i i refl)

put_other : {A : Type 0} (f : ℕ → A) (i : ℕ) (v : A) (j : ℕ) → (j ≡ i → ⊥) → put f i v j ≡ f j
unfolding put
put_other f i v j h = ap (λ (y : Bool). elim y [ true ↦ v | false ↦ f j ]) (ne_eqb j i h)

-- the rows before which a part may end that row k can take
data Boundary (t : Links) (k : ℕ) : ℕ → Type 0 where
  here : Boundary t k k
  back : {m : ℕ} → Boundary t k (suc m) → Boundary t k (t.begin m)

-- so many parts of row k are linked, from the last back to the cursor
data Upper (t : Links) (k : ℕ) : (count cursor : ℕ) (later : Option ℕ) → Type 0 where
  none_yet : Upper t k 0 k none
  one_more : {n m : ℕ} {later : Option ℕ} → t.parent m ≡ k → t.next m ≡ later → t.begin m ≤ m → Upper t k n (suc m) later → Upper t k (suc n) (t.begin m) (some m)

-- ---- what Parts looks at

abbrev Low : Links → Type 0
Low t = (j : ℕ) → t.begin j ≤ j

parts_low : {t : Links} {j n cursor : ℕ} {later : Option ℕ} → Low t → cursor ≤ j → Parts t j n cursor later → t.begin j ≤ cursor
parts_low {t} {j} low h (no_part e q) = omega (arith, e)
parts_low {t} {j} low h (a_part {m = m} p q r) =
    let a : t.begin m ≤ m = low m in
    let b : t.begin j ≤ t.begin m = parts_low low (omega (arith, a, h)) r in
    omega (arith, a, b)

-- links that agree with t on the part of row j
pub record Agree (t u : Links) (j : ℕ) : Type 0 where
  parents : (m : ℕ) → t.begin j ≤ m → m < j → u.parent m ≡ t.parent m
  nexts : (m : ℕ) → t.begin j ≤ m → m < j → u.next m ≡ t.next m
  begins : (m : ℕ) → u.begin m ≡ t.begin m
  child : u.child j ≡ t.child j

parts_keep : {t u : Links} {j n cursor : ℕ} {later : Option ℕ} → Low t → Agree t u j → cursor ≤ j → Parts t j n cursor later → Parts u j n cursor later
parts_keep {t} {u} {j} low g h (no_part e q) = no_part (g.begins j ∙ e) (g.child ∙ q)
parts_keep {t} {u} {j} {later = later} low g h (a_part {count = n} {m = m} p q r) =
    let a : t.begin m ≤ m = low m in
    let c : t.begin m ≤ j = omega (arith, a, h) in
    let b : t.begin j ≤ t.begin m = parts_low low c r in
    let d : t.begin j ≤ m = omega (arith, a, b) in
    a_part (g.parents m d h ∙ p) (g.nexts m d h ∙ q) (subst (λ (z : ℕ). Parts u j n z (some m)) (sym (g.begins m)) (parts_keep low g c r))

upper_parts : {t : Links} {k n cursor : ℕ} {later : Option ℕ} → Upper t k n cursor later → (j : ℕ) → Parts t k j cursor later → Parts t k (n + j) k none
upper_parts {t} {k} none_yet j p = subst (λ (z : ℕ). Parts t k z k none) (sym (zero-add j)) p
upper_parts {t} {k} (one_more {n = n} q r l u) j p =
    let e : n + suc j ≡ suc n + j = omega arith in
    subst (λ (z : ℕ). Parts t k z k none) e (upper_parts u (suc j) (a_part q r p))

upper_keep : {t u : Links} {k n cursor : ℕ} {later : Option ℕ} → ((i : ℕ) → cursor ≤ i → i < k → u.parent i ≡ t.parent i) → ((i : ℕ) → cursor ≤ i → i < k → u.next i ≡ t.next i)
    → ((i : ℕ) → i < k → u.begin i ≡ t.begin i) → Upper t k n cursor later → Upper u k n cursor later
upper_keep {t} {u} {k} a b c none_yet = none_yet
upper_keep {t} {u} {k} a b c (one_more {n = n} {m = m} q r l w) =
    let h : m < k = upper_in w in
    let e : u.begin m ≡ t.begin m = c m h in
    subst (λ (z : ℕ). Upper u k (suc n) z (some m)) e
    (one_more (a m l h ∙ q) (b m l h ∙ r) (omega (arith, e, l)) (upper_keep (λ i g. a i (omega (arith, g, l))) (λ i g. b i (omega (arith, g, l))) c w))
  where
    upper_in : {x y : ℕ} {z : Option ℕ} → Upper t k x y z → y ≤ k
    upper_in none_yet = le_refl k
    upper_in (one_more {m = o} q r l w) = let g : suc o ≤ k = upper_in w in omega (arith, g, l)

-- ---- the rows before row k are linked

module _ (row_at : ℕ → Row) where
  pub record Linking (t : Links) (k : ℕ) : Type 0 where
    pub low : (j : ℕ) → t.begin j ≤ j
    pub linked : (j : ℕ) → j < k → Linked row_at t j
    apart : (c : ℕ) → Boundary t k c → (j : ℕ) → j < k → (c ≤ t.begin j) ⊎ (j < c)

  -- and so many parts of row k
  pub record Taking (t : Links) (k n cursor : ℕ) (later : Option ℕ) : Type 0 where
    base : Linking t k
    at : Boundary t k cursor
    upper : Upper t k n cursor later
    pub under : cursor ≤ k

  pub linking_start : (t : Links) → ((j : ℕ) → t.begin j ≤ j) → Linking t 0
  linking_start t low = record { low = low; linked = λ j h. absurd (omega (arith, h)); apart = λ c b j h. absurd (omega (arith, h)) }

  pub taking_start : (t : Links) (k : ℕ) → Linking t k → Taking t k 0 k none
  taking_start t k h = record { base = h; at = here; upper = none_yet; under = le_refl k }

  boundary_part : (t : Links) (k m : ℕ) (l : Option ℕ) (x : ℕ) {c : ℕ} → Boundary (with_part t x m l) k c → Boundary t k c
  boundary_part t k m l x here = here
  boundary_part t k m l x (back b) = back (boundary_part t k m l x b)

  -- the next part
  pub taking_part : (t : Links) (k n m : ℕ) (later : Option ℕ) → Taking t k n (suc m) later → Taking (with_part t k m later) k (suc n) (t.begin m) (some m)
  taking_part t k n m later h =
      let u : suc m ≤ k = h.under in
      let l : t.begin m ≤ m = h.base.low m in
      record {
        base = record {
          low = h.base.low;
          linked = λ j g. parts_keep h.base.low (agree j g (h.base.apart (suc m) h.at j g)) (le_refl j) (h.base.linked j g);
          apart = λ c b j g. h.base.apart c (boundary_part t k m later k b) j g;
        };
        at = back at';
        upper = one_more (put_there t.parent m k) (put_there t.next m later) l
            (upper_keep (λ i g q. put_other t.parent m k i (λ z. omega (arith, g, z))) (λ i g q. put_other t.next m later i (λ z. omega (arith, g, z))) (λ i q. refl) h.upper);
        under = omega (arith, l, u);
      }
    where
      up_boundary : {c : ℕ} → Boundary t k c → Boundary (with_part t k m later) k c
      up_boundary here = here
      up_boundary (back b) = back (up_boundary b)

      at' : Boundary (with_part t k m later) k (suc m)
      at' = up_boundary h.at

      agree : (j : ℕ) → j < k → ((suc m ≤ t.begin j) ⊎ (j < suc m)) → Agree t (with_part t k m later) j
      agree j g (inl p) = record {
        parents = λ i a b. put_other t.parent m k i (λ z. omega (arith, a, p, z));
        nexts = λ i a b. put_other t.next m later i (λ z. omega (arith, a, p, z));
        begins = λ i. refl;
        child = refl;
      }
      agree j g (inr p) = record {
        parents = λ i a b. put_other t.parent m k i (λ z. omega (arith, b, p, z));
        nexts = λ i a b. put_other t.next m later i (λ z. omega (arith, b, p, z));
        begins = λ i. refl;
        child = refl;
      }

  -- the row has its parts
  pub taking_end : (t : Links) (k n cursor : ℕ) (later : Option ℕ) → Taking t k n cursor later → n ≡ parts_of (row_at k) → t.begin k ≡ cursor → Linking (with_row t k later) (suc k)
  taking_end t k n cursor later h e z =
      record {
        low = h.base.low;
        linked = λ j g. linked_at j g (at_or j g);
        apart = λ c b j g. apart_at c (bounds b) j g (at_or j g);
      }
    where
      at_or : (j : ℕ) → j < suc k → (j ≡ k) ⊎ (j < k)
      at_or j g = by (eqb j k) refl
        where
          by : (y : Bool) → eqb j k ≡ y → (j ≡ k) ⊎ (j < k)
          by true q = inl (eqb-true j k q)
          by false q = let n : j ≡ k → ⊥ = eqb-false j k q in inr (omega (arith, g, n))

      agree : (j : ℕ) → j < k → Agree t (with_row t k later) j
      agree j g = record { parents = λ i a b. refl; nexts = λ i a b. refl; begins = λ i. refl; child = put_other t.child k later j (λ z. omega (arith, g, z)) }

      linked_at : (j : ℕ) → j < suc k → ((j ≡ k) ⊎ (j < k)) → Linked row_at (with_row t k later) j
      linked_at j g (inr q) = parts_keep h.base.low (agree j q) (le_refl j) (h.base.linked j q)
      linked_at j g (inl q) =
          subst (λ (z : ℕ). Linked row_at (with_row t k later) z) (sym q)
          (subst (λ (z : ℕ). Parts (with_row t k later) k z k none) (sums ∙ e)
          (upper_parts (upper_keep (λ i a b. refl) (λ i a b. refl) (λ i a. refl) h.upper) 0 (no_part z (put_there t.child k later))))
        where
          sums : n + 0 ≡ n
          sums = omega arith

      bounds : {c : ℕ} → Boundary (with_row t k later) (suc k) c → (c ≡ suc k) ⊎ ((c ≤ cursor) × Boundary t k c)
      bounds here = inl refl
      bounds (back {m = m} b) = on m (bounds b)
        where
          on : (m : ℕ) → ((suc m ≡ suc k) ⊎ ((suc m ≤ cursor) × Boundary t k (suc m))) → (t.begin m ≡ suc k) ⊎ ((t.begin m ≤ cursor) × Boundary t k (t.begin m))
          on m (inl q) =
              let r : m ≡ k = omega (arith, q) in
              let s : t.begin m ≡ cursor = ap t.begin r ∙ z in
              inr (omega (arith, s), subst (λ (z : ℕ). Boundary t k z) (sym s) h.at)
          on m (inr q) =
              let g : suc m ≤ cursor = q.0 in
              let l : t.begin m ≤ m = h.base.low m in
              inr (omega (arith, l, g), back q.1)

      apart_at : (c : ℕ) → ((c ≡ suc k) ⊎ ((c ≤ cursor) × Boundary t k c)) → (j : ℕ) → j < suc k → ((j ≡ k) ⊎ (j < k)) → (c ≤ t.begin j) ⊎ (j < c)
      apart_at c (inl q) j g w = inr (omega (arith, q, g))
      apart_at c (inr q) j g (inl w) =
          let s : t.begin j ≡ cursor = ap t.begin w ∙ z in
          let a : c ≤ cursor = q.0 in
          inl (omega (arith, a, s))
      apart_at c (inr q) j g (inr w) = h.base.apart c q.1 j w
