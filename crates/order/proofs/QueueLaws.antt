-- The queue: one more block at its end, and what it holds when the names are done.
use mathlib.Core.Path.{◌≡◌, refl, sym, ap, ◌∙◌, subst}
use Prim.Native.Nat.{ℕ, zero, suc, ◌+◌, ◌<◌, ◌≤◌}
use native.Mathlib.Omega.{arith}
use native.Mathlib.Numerals.{add-one}
use mathlib.Core.List.{List, [], ◌∷◌, ◌++◌}
use mathlib.Core.Bool.{Bool, true, false, ◌||◌}
use lib.ListN.{length, get_or, take, set, replicate, length-set, length-append, length-replicate, get_or-replicate}
use lib.Seq.{take-suc-set, length-take-le, get_or-set_same, get_or-set_other}
use borrow.Author.Tests.{ne_eqb, lt-ltb}
use Rattle.table.specs.Table.{rows_from}
use Rattle.table.proofs.BlockLaws.{length_rows}
use Rattle.definition.specs.Completion.{contains}
use Rattle.renaming.specs.Order.{with_named}
use Rattle.renaming.proofs.Permutations.{by_equal, pick_true, pick_false, fits_in, in_rows, below_of}
use Rattle.renaming.proofs.OrderLaws.{in_append, in_end, below_end, once_end}
use Rattle.order.specs.Queue.{Queued}

-- ---- the flags

pub queued_none : (most : ℕ) → Queued most [] (replicate 1024 false)
queued_none most = record {
  wide = length-replicate {A = Bool} 1024 false;
  below = refl;
  once = refl;
  flags = λ b h. get_or-replicate {A = Bool} 1024 b false false h;
}

module _ {most : ℕ} {list : List ℕ} {found : List Bool} (q : Queued most list found) where
  pub queued_few : length list ≤ most
  queued_few =
      let inside = fits_in list (rows_from 0 most) q.once (λ b h. in_rows 0 most b (omega arith) (omega (arith, below_of most list q.below b h))) in
      omega (arith, length_rows 0 most)

  module _ (b : ℕ) (inside : b < most) (narrow : most ≤ 1024) where
    pub is_found : get_or found b false ≡ true → contains list b ≡ true
    is_found e = sym (q.flags b (omega arith)) ∙ e

    pub not_found : get_or found b false ≡ false → contains list b ≡ false
    not_found e = sym (q.flags b (omega arith)) ∙ e

    pub queued_more : get_or found b false ≡ false → Queued most (list ++ (b ∷ [])) (set found b true)
    queued_more e = record {
      wide = length-set found b true ∙ q.wide;
      below = below_end most list b q.below (lt-ltb b most inside);
      once = once_end list b q.once (not_found e);
      flags = λ c l. by_equal c b
          (λ z. subst (λ (x : ℕ). get_or (set found b true) x false ≡ contains (list ++ (b ∷ [])) x) (sym z)
          (get_or-set_same found b true false (omega (arith, q.wide)) ∙ sym (in_end list b)))
          (λ f. get_or-set_other found b c true false f ∙ (q.flags c l ∙ sym (other c f)));
    }
      where
        no : (y : Bool) → y || false ≡ y
        no true = refl
        no false = refl

        other : (c : ℕ) → (c ≡ b → ⊥) → contains (list ++ (b ∷ [])) c ≡ contains list c
        other c f = in_append list (b ∷ []) c ∙ rw (ne_eqb b c (λ z. f (sym z))) (no (contains list c))

-- a block that has no flag yet has room behind the others
module _ (blocks : List ℕ) (count : ℕ) (found : List Bool) (b : ℕ) (long : length blocks ≡ 1024) (some : count ≤ 1024) (q : Queued 1024 (take count blocks) found)
    (inside : b < 1024) (none : get_or found b false ≡ false) where
  pub room : count < 1024
  room =
      let next = queued_few (queued_more q b inside (omega arith) none) in
      omega (arith, length-append (take count blocks) (b ∷ []), length-take-le count blocks (omega arith), next)

  pub stored : take (count + 1) (set blocks count b) ≡ take count blocks ++ (b ∷ [])
  stored = rw add-one (take-suc-set blocks count b (omega (arith, room)))

  pub queued_next : (count + 1 ≤ 1024) × Queued 1024 (take (count + 1) (set blocks count b)) (set found b true)
  queued_next = (omega (arith, room), rw stored (queued_more q b inside (omega arith) none))

-- ---- a name

pub named_new : (list : List ℕ) (b : ℕ) → contains list b ≡ false → list ++ (b ∷ []) ≡ with_named list (b ∷ [])
named_new list b e = sym (pick_false (contains list b) list (list ++ (b ∷ [])) e)

-- names, and then more names
with_append : (found a b : List ℕ) → with_named found (a ++ b) ≡ with_named (with_named found a) b
with_append found [] b = refl
with_append found (x ∷ a) b = by (contains found x) refl (with_append found a b) (with_append (found ++ (x ∷ [])) a b)
  where
    by : (y : Bool) → contains found x ≡ y → with_named found (a ++ b) ≡ with_named (with_named found a) b
        → with_named (found ++ (x ∷ [])) (a ++ b) ≡ with_named (with_named (found ++ (x ∷ [])) a) b → with_named found (x ∷ (a ++ b)) ≡ with_named (with_named found (x ∷ a)) b
    by true e there more =
        pick_true (contains found x) (with_named found (a ++ b)) (with_named (found ++ (x ∷ [])) (a ++ b)) e
        ∙ (there ∙ ap (λ (l : List ℕ). with_named l b) (sym (pick_true (contains found x) (with_named found a) (with_named (found ++ (x ∷ [])) a) e)))
    by false e there more =
        pick_false (contains found x) (with_named found (a ++ b)) (with_named (found ++ (x ∷ [])) (a ++ b)) e
        ∙ (more ∙ ap (λ (l : List ℕ). with_named l b) (sym (pick_false (contains found x) (with_named found a) (with_named (found ++ (x ∷ [])) a) e)))

-- some names, and then more
pub named_then : (found names more : List ℕ) {l m : List ℕ} → l ≡ with_named found names → m ≡ with_named l more → m ≡ with_named found (names ++ more)
named_then found names more e f = rw (f, e, with_append found names more)

-- the blocks 0, 1, .. and one more
rows_end : (first n : ℕ) → rows_from first (suc n) ≡ rows_from first n ++ ((first + n) ∷ [])
rows_end first zero = ap (λ (z : ℕ). z ∷ []) (omega arith)
rows_end first (suc n) = ap (λ (l : List ℕ). first ∷ l) (rows_end (suc first) n ∙ ap (λ (z : ℕ). rows_from (suc first) n ++ (z ∷ [])) (omega arith))

rows_next : (n : ℕ) → rows_from 0 (n + 1) ≡ rows_from 0 n ++ (n ∷ [])
rows_next n = rw (add-one n) (rows_end 0 n ∙ ap (λ (z : ℕ). rows_from 0 n ++ (z ∷ [])) (omega arith))

pub row_named : (found : List ℕ) (n : ℕ) {l m : List ℕ} → l ≡ with_named found (rows_from 0 n) → m ≡ with_named l (n ∷ []) → m ≡ with_named found (rows_from 0 (n + 1))
row_named found n e f = rw (f, e, rows_next n) (sym (with_append found (rows_from 0 n) (n ∷ [])))
