-- M-101's answers, as the paper says them: each of 42, 43 and 0 exactly where it is given, and the part within the tree buffer.
use mathlib.Core.Path.{◌≡◌, refl, ap, ◌∙◌}
use Prim.Native.Nat.{ℕ, zero, suc, ◌+◌, ◌*◌, ◌-◌, ◌/◌, ◌≤◌, ◌<◌}
use native.Mathlib.Omega.{arith}
use mathlib.Core.List.{List, [], ◌∷◌}
use mathlib.Core.Bool.{Bool, true, false, ◌||◌}
use lib.ListN.{length, take, drop}
use lib.Seq.{slice}
use lib.Dec.{leb, ltb}
use borrow.Author.Tests.{lt-ltb, le-ltb, le-leb, lt-leb, ltb-true, ltb-false, leb-true, leb-false}
use Rattle.std.specs.Prelude.{Option, None, Some}
use Rattle.lookup.specs.Lookup.{lines_read, line_word, first_with, Found, refusal, part_unless, part_of, found_at, found, part_found, looked}
use Rattle.lookup.proofs.Searches.{First, NoneHas, Searched, searched, first_is, none_is}

-- ---- a line's rows

module _ (first closing tree : ℕ) where
  pub first_after : closing < first → part_of first closing tree ≡ refusal 43
  unfolding part_of
  first_after h = ap (λ (y : Bool). part_unless (y || leb (tree / 6) closing) first closing) (lt-ltb closing first h)

  pub closing_beyond : first ≤ closing → tree / 6 ≤ closing → part_of first closing tree ≡ refusal 43
  unfolding part_of
  closing_beyond a b =
      ap (λ (y : Bool). part_unless (y || leb (tree / 6) closing) first closing) (le-ltb closing first a)
      ∙ ap (λ (y : Bool). part_unless (false || y) first closing) (le-leb (tree / 6) closing b)

  pub part_in : first ≤ closing → closing < tree / 6 → part_of first closing tree ≡ record { code = 0; at = 0; begin = first * 6; end = (closing + 1) * 6 }
  unfolding part_of
  part_in a b =
      ap (λ (y : Bool). part_unless (y || leb (tree / 6) closing) first closing) (le-ltb closing first a)
      ∙ ap (λ (y : Bool). part_unless (false || y) first closing) (lt-leb (tree / 6) closing b)

-- the three cases of a line
pub data Cut (first closing tree : ℕ) : Type 0 where
  after : closing < first → Cut first closing tree
  beyond : first ≤ closing → tree / 6 ≤ closing → Cut first closing tree
  inside : first ≤ closing → closing < tree / 6 → Cut first closing tree

pub cut : (first closing tree : ℕ) → Cut first closing tree
cut first closing tree = by (ltb closing first) (leb (tree / 6) closing) refl refl
  where
    by : (x y : Bool) → ltb closing first ≡ x → leb (tree / 6) closing ≡ y → Cut first closing tree
    by true y e f = after (ltb-true closing first e)
    by false true e f = beyond (ltb-false closing first e) (leb-true (tree / 6) closing f)
    by false false e f = inside (ltb-false closing first e) (leb-false (tree / 6) closing f)

-- a part of a buffer of so many words
pub record Within (part : Found) (tree : ℕ) : Type 0 where
  pub order : part.begin ≤ part.end
  pub most : part.end ≤ tree

pub part_within : (first closing tree : ℕ) → Within (part_of first closing tree) tree
part_within first closing tree = by (cut first closing tree)
  where
    by : Cut first closing tree → Within (part_of first closing tree) tree
    by (after h) = rw (first_after first closing tree h) (record { order = omega arith; most = omega arith })
    by (beyond a b) = rw (closing_beyond first closing tree a b) (record { order = omega arith; most = omega arith })
    by (inside a b) = rw (part_in first closing tree a b) (record { order = omega arith; most = omega arith })

pub within : (index : List ℕ) (number label tree : ℕ) → Within (found index number label tree) tree
unfolding found found_at
within index number label tree = by (first_with index label 0 (lines_read index number))
  where
    by : (o : Option ℕ) → Within (found_at index tree o) tree
    by None = record { order = omega arith; most = omega arith }
    by (Some i) = part_within (line_word index i 1) (line_word index i 2) tree

-- ---- the lookup

module _ (index : List ℕ) (number label tree : ℕ) where
  -- the lines that are read
  abbrev read : ℕ
  read = lines_read index number

  -- "42 in a lookup exactly when no line has the label"
  pub none_42 : NoneHas index label 0 read → found index number label tree ≡ refusal 42
  unfolding found found_at
  none_42 h = ap (found_at index tree) (none_is index label read h)

  -- the first line that has it, and no other, says where the rows are
  pub by_first : (i : ℕ) → First index label 0 read i → found index number label tree ≡ part_of (line_word index i 1) (line_word index i 2) tree
  unfolding found found_at
  by_first i h = ap (found_at index tree) (first_is index label read i h)

  pub only_42 : (found index number label tree).code ≡ 42 → NoneHas index label 0 read
  unfolding found found_at
  only_42 = by (first_with index label 0 read) (searched index label 0 read)
    where
      not_42 : (first closing : ℕ) → (part_of first closing tree).code ≡ 42 → ⊥
      not_42 first closing e = on (cut first closing tree)
        where
          on : Cut first closing tree → ⊥
          on (after h) = omega (arith, rw (first_after first closing tree h) at e)
          on (beyond a b) = omega (arith, rw (closing_beyond first closing tree a b) at e)
          on (inside a b) = omega (arith, rw (part_in first closing tree a b) at e)

      by : (o : Option ℕ) → Searched index label 0 read o → (found_at index tree o).code ≡ 42 → NoneHas index label 0 read
      by None q e = q
      by (Some i) q e = absurd (not_42 (line_word index i 1) (line_word index i 2) e)

-- "a refused lookup gives an empty part", and one that is not refused some rows
abbrev pub EmptyIfRefused : Found → Type 0
EmptyIfRefused part = ((part.code ≡ 0 → ⊥) → (part.begin ≡ 0) × (part.end ≡ 0)) × (part.code ≡ 0 → part.begin < part.end)

refused_part : (code : ℕ) → (code ≡ 0 → ⊥) → EmptyIfRefused (refusal code)
refused_part code f = ((λ g. (refl, refl)), (λ e. absurd (f e)))

pub empty_if_refused : (index : List ℕ) (number label tree : ℕ) → EmptyIfRefused (found index number label tree)
unfolding found found_at
empty_if_refused index number label tree = by (first_with index label 0 (lines_read index number))
  where
    on : (first closing : ℕ) → Cut first closing tree → EmptyIfRefused (part_of first closing tree)
    on first closing (after h) = rw (first_after first closing tree h) (refused_part 43 (λ e. omega (arith, e)))
    on first closing (beyond a b) = rw (closing_beyond first closing tree a b) (refused_part 43 (λ e. omega (arith, e)))
    on first closing (inside a b) = rw (part_in first closing tree a b) ((λ f. absurd (f refl)), (λ e. omega (arith, a)))

    by : (o : Option ℕ) → EmptyIfRefused (found_at index tree o)
    by None = refused_part 42 (λ e. omega (arith, e))
    by (Some i) = on (line_word index i 1) (line_word index i 2) (cut (line_word index i 1) (line_word index i 2) tree)

-- the same for what `find` gave
pub found_within : (index : List ℕ) (number label : ℕ) {tree : ℕ} {given : Found} → given ≡ found index number label tree → Within given tree
found_within index number label {tree} e = rw e (within index number label tree)

-- the elements from index f up to before index t, either way round
take_nil : (n : ℕ) → take {A = ℕ} n [] ≡ []
take_nil zero = refl
take_nil (suc n) = refl

range_slice : (f t : ℕ) (l : List ℕ) → f ≤ t → take (t - f) (drop f l) ≡ slice f t l
range_slice zero t l h =
    let all : t - 0 ≡ t = omega arith in
    ap (λ (n : ℕ). take n l) all
range_slice (suc f) zero l h = absurd (omega (arith, h))
range_slice (suc f) (suc t) [] h = take_nil (suc t - suc f)
range_slice (suc f) (suc t) (x ∷ l) h =
    let less : suc t - suc f ≡ t - f = omega arith in
    ap (λ (n : ℕ). take n (drop f l)) less ∙ range_slice f t l (omega (arith, h))

pub part_found_lem : (index : List ℕ) (number label : ℕ) (tree : List ℕ) {given : Found} → given ≡ found index number label (length tree)
    → record { code = given.code; at = given.at; words = take (given.end - given.begin) (drop given.begin tree) } ≡ looked index number label tree
part_found_lem index number label tree {given} e =
    ap (λ (words : List ℕ). record { code = given.code; at = given.at; words = words }) (range_slice given.begin given.end tree (found_within index number label e).order)
    ∙ ap (part_found tree) e
