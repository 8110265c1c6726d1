-- The search, and what the entry makes of it.
use mathlib.Core.Path.{◌≡◌, sym, ap, ◌∙◌}
use Prim.Native.Nat.{ℕ, ◌+◌, ◌*◌, ◌≤◌, ◌<◌}
use native.Mathlib.Omega.{arith}
use mathlib.Core.List.{List}
use lib.ListN.{length, get_or}
use Rattle.std.specs.Prelude.{Option, None, Some, Ok, Err, ok_or, MatchOption}
use Rattle.lookup.specs.declared.LookupError.{LookupError}
use Rattle.lookup.specs.declared.LookupError.TheVariants.{NoSuchLabel}
use Rattle.lookup.specs.Lookup.{code_of, lines_read, line_word, first_with, refusal, part_of, found_at, found}
use Rattle.lookup.proofs.Searches.{read_few, found_read, first_is, none_is}

label_word : (index : List ℕ) (line : ℕ) → line_word index line 0 ≡ get_or index (line * 3) 0
label_word index line = ap (λ (n : ℕ). get_or index n 0) (omega arith)

module _ (index : List ℕ) (label : ℕ) where
  abbrev pub Has : ℕ → Type 0
  Has line = get_or index (line * 3) 0 ≡ label

  abbrev pub HasNot : ℕ → Type 0
  HasNot line = get_or index (line * 3) 0 ≡ label → ⊥

  pub sought : (count : ℕ) (r : Option ℕ) → MatchOption r ((k : ℕ) → 0 ≤ k → k < count → HasNot k) (λ i. (0 ≤ i) × (i < count) × Has i × ((k : ℕ) → 0 ≤ k → k < i → HasNot k))
      → r ≡ first_with index label 0 count
  sought count None h = sym (none_is index label count (λ j a b e. h j a (omega (arith, b)) (sym (label_word index j) ∙ e)))
  sought count (Some i) h = sym (first_is index label count i (record {
    from = h.0;
    read = omega (arith, h.1);
    has = label_word index i ∙ h.2;
    none_before = λ j a b e. h.3 j a b (sym (label_word index j) ∙ e);
  }))

-- ---- from the search to the answer

module _ (index : List ℕ) (number label tree : ℕ) {line : Option ℕ} (is : line ≡ first_with index label 0 (lines_read index number)) where
  pub no_line : {error : LookupError} → Err error ≡ ok_or line NoSuchLabel → refusal (code_of error) ≡ found index number label tree
  unfolding found found_at
  no_line {error} e = by line is e
    where
      by : (o : Option ℕ) → o ≡ first_with index label 0 (lines_read index number) → Err error ≡ ok_or o NoSuchLabel → refusal (code_of error) ≡ found index number label tree
      by None q e = let z : error ≡ NoSuchLabel = cc in rw (z, ← q)
      by (Some i) q e = cc

  line_is : {i : ℕ} → Ok i ≡ ok_or line NoSuchLabel → Some i ≡ first_with index label 0 (lines_read index number)
  line_is {i} e = by line is e
    where
      by : (o : Option ℕ) → o ≡ first_with index label 0 (lines_read index number) → Ok i ≡ ok_or o NoSuchLabel → Some i ≡ first_with index label 0 (lines_read index number)
      by None q e = cc
      by (Some k) q e = let z : i ≡ k = cc in ap Some z ∙ q

  pub line_whole : {i : ℕ} → Ok i ≡ ok_or line NoSuchLabel → i * 3 + 3 ≤ length index
  line_whole {i} e = omega (arith, (read_few index number).1, found_read index label (lines_read index number) i (line_is e))

  pub line_found : {i : ℕ} → Ok i ≡ ok_or line NoSuchLabel → part_of (line_word index i 1) (line_word index i 2) tree ≡ found index number label tree
  unfolding found found_at
  line_found {i} e = rw (← (line_is e))
