-- M-101: the search as a relation: none of the lines that are read has the label, or this is the first that has it.
use mathlib.Core.Path.{◌≡◌, refl, sym, ap, ◌∙◌}
use Prim.Native.Nat.{ℕ, zero, suc, ◌+◌, ◌*◌, ◌/◌, ◌≤◌, ◌<◌, min}
use native.Mathlib.Omega.{arith}
use mathlib.Core.List.{List}
use mathlib.Core.Bool.{Bool, true, false}
use lib.ListN.{length}
use lib.Dec.{eqb, ltb}
use borrow.Author.Tests.{lt-ltb, le-ltb, eqb-true, eqb-false, ltb-true, ltb-false}
use Rattle.std.specs.Prelude.{Option, None, Some}
use Rattle.lookup.specs.Lookup.{lines_read, line_word, first_with}

-- ---- the lines that are read

module _ (index : List ℕ) (number : ℕ) where
  abbrev fewer : Bool → ℕ
  fewer y = elim y [ true ↦ number | false ↦ length index / 3 ]

  pub as_told : number < length index / 3 → number ≡ lines_read index number
  unfolding lines_read
  as_told h = ap fewer (sym (lt-ltb number (length index / 3) h))

  pub as_held : length index / 3 ≤ number → length index / 3 ≡ lines_read index number
  unfolding lines_read
  as_held h = ap fewer (sym (le-ltb number (length index / 3) h))

  pub read_least : min (length index / 3) number ≡ lines_read index number
  read_least = by (ltb number (length index / 3)) refl
    where
      by : (y : Bool) → ltb number (length index / 3) ≡ y → min (length index / 3) number ≡ lines_read index number
      by true e = let h = ltb-true number (length index / 3) e in omega (arith, as_told h)
      by false e = let h = ltb-false number (length index / 3) e in omega (arith, as_held h)

  -- "reads no line beyond it or beyond the buffer"
  pub read_few : (lines_read index number ≤ number) × (lines_read index number * 3 ≤ length index)
  read_few = (omega (arith, read_least), omega (arith, read_least))

-- ---- the search

-- among so many lines from this line on, i is the first that has the label
pub record First (index : List ℕ) (label line left i : ℕ) : Type 0 where
  pub from : line ≤ i
  pub read : i < line + left
  pub has : line_word index i 0 ≡ label
  pub none_before : (j : ℕ) → line ≤ j → j < i → line_word index j 0 ≡ label → ⊥

abbrev pub NoneHas : (index : List ℕ) → (label line left : ℕ) → Type 0
NoneHas index label line left = (j : ℕ) → line ≤ j → j < line + left → line_word index j 0 ≡ label → ⊥

abbrev pub Searched : (index : List ℕ) → (label line left : ℕ) → Option ℕ → Type 0
Searched index label line left None = NoneHas index label line left
Searched index label line left (Some i) = First index label line left i

pub searched : (index : List ℕ) (label line left : ℕ) → Searched index label line left (first_with index label line left)
unfolding first_with
searched index label line zero = λ j a b e. omega (arith, a, b)
searched index label line (suc left) = at (eqb (line_word index line 0) label) refl (first_with index label (suc line) left) (searched index label (suc line) left)
  where
    below : (j : ℕ) → line ≤ j → (line ≡ j → ⊥) → suc line ≤ j
    below j a n = omega (arith, a, n)

    other : (j : ℕ) → eqb (line_word index line 0) label ≡ false → line_word index j 0 ≡ label → line ≡ j → ⊥
    other j f e q = eqb-false (line_word index line 0) label f (ap (λ (k : ℕ). line_word index k 0) q ∙ e)

    at : (y : Bool) → eqb (line_word index line 0) label ≡ y → (o : Option ℕ) → Searched index label (suc line) left o → Searched index label line (suc left) (elim y [ true ↦ Some line | false ↦ o ])
    at true f o h = record { from = omega arith; read = omega arith; has = eqb-true (line_word index line 0) label f; none_before = λ j a b e. omega (arith, a, b) }
    at false f None h = λ j a b e. h j (below j a (other j f e)) (omega (arith, b)) e
    at false f (Some i) h = record {
      from = omega (arith, h.from);
      read = omega (arith, h.read);
      has = h.has;
      none_before = λ j a b e. h.none_before j (below j a (other j f e)) b e;
    }

-- there is one first line
pub first_is : (index : List ℕ) (label left i : ℕ) → First index label 0 left i → first_with index label 0 left ≡ Some i
first_is index label left i h = at (first_with index label 0 left) (searched index label 0 left)
  where
    three : (k : ℕ) → (k < i → ⊥) → (i < k → ⊥) → k ≡ i
    three k a b = omega (arith, a, b)

    at : (o : Option ℕ) → Searched index label 0 left o → o ≡ Some i
    at None q = absurd (q i h.from h.read h.has)
    at (Some k) q = ap Some (three k (λ l. h.none_before k (omega arith) l q.has) (λ l. q.none_before i (omega arith) l h.has))

-- none has it
pub none_is : (index : List ℕ) (label left : ℕ) → NoneHas index label 0 left → first_with index label 0 left ≡ None
none_is index label left h = at (first_with index label 0 left) (searched index label 0 left)
  where
    at : (o : Option ℕ) → Searched index label 0 left o → o ≡ None
    at None q = refl
    at (Some i) q = absurd (h i q.from q.read q.has)

-- the line found is one of those read
pub found_read : (index : List ℕ) (label left i : ℕ) → Some i ≡ first_with index label 0 left → i < left
found_read index label left i = at (first_with index label 0 left) (searched index label 0 left)
  where
    same : (k : ℕ) → Some i ≡ Some k → i ≡ k
    same k e = cc

    at : (o : Option ℕ) → Searched index label 0 left o → Some i ≡ o → i < left
    at None q e = cc
    at (Some k) q e = omega (arith, same k e, q.read)
