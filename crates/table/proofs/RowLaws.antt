-- Rows and their verdicts: what an accepted row says of its words, and rows one after the other. One set of laws for the five tables.
use Prim.Native.Nat.{ℕ, zero, suc, ◌+◌, ◌*◌, ◌-◌, ◌<◌}
use mathlib.Core.Path.{◌≡◌, refl, ◌∙◌}
use mathlib.Core.List.{List, [], ◌∷◌}
use mathlib.Core.Bool.{Bool, true, false}
use native.Mathlib.Omega.{arith}
use native.Mathlib.Nat.{zero-mul, suc-mul}
use lib.ListN.{length, get_or}
use Rattle.table.specs.Words.{word}
use Rattle.table.specs.Check.{Verdict, accepted, refused, Rule, unused, fits, row_verdict, rows_verdict, and_then}

-- ---- a row

module _ (ws : List ℕ) (at : ℕ) where
  abbrev columns : ℕ → ℕ
  columns column = word ws (at + column)

  -- an accepted row: every word fits, and the other way round
  pub row_fits : (column : ℕ) (rules : List Rule) → row_verdict ws (at + column) rules ≡ accepted
      → (k : ℕ) → k < length rules → fits (get_or rules k unused) (columns (column + k)) ≡ true
  unfolding row_verdict
  row_fits column [] h k l = absurd (omega arith)
  row_fits column (rule ∷ rules) h k l = go (fits rule (columns column)) refl h (row_fits (suc column) rules) k l
    where
      go : (b : Bool) → fits rule (columns column) ≡ b → elim b [ true ↦ row_verdict ws (suc (at + column)) rules | false ↦ refused 4 (at + column) ] ≡ accepted
          → (row_verdict ws (at + suc column) rules ≡ accepted → (k : ℕ) → k < length rules → fits (get_or rules k unused) (columns (suc column + k)) ≡ true)
          → (k : ℕ) → k < suc (length rules) → fits (get_or (rule ∷ rules) k unused) (columns (column + k)) ≡ true
      go true e h ih zero l = let z : column + 0 ≡ column = omega arith in rw z e
      go true e h ih (suc k) l =
          let z : at + suc column ≡ suc (at + column) = omega arith in
          let y : suc column + k ≡ column + suc k = omega arith in
          rw (← y) (ih (rw z h) k (omega arith))
      go false e h ih k l = absurd (let z : ◌≡◌ {A = ℕ} 0 1 = cc in omega arith)

  pub fits_row : (column : ℕ) (rules : List Rule) → ((k : ℕ) → k < length rules → fits (get_or rules k unused) (columns (column + k)) ≡ true)
      → row_verdict ws (at + column) rules ≡ accepted
  unfolding row_verdict
  fits_row column [] h = refl
  fits_row column (rule ∷ rules) h =
      let z : column ≡ column + 0 = omega arith in
      let y : suc (at + column) ≡ at + suc column = omega arith in
      let first : fits rule (columns column) ≡ true = rw z (h 0 (omega arith)) in
      rw (first, row_verdict) (rw y (fits_row (suc column) rules λ k l. (let x : suc column + k ≡ column + suc k = omega arith in rw x (h (suc k) (omega arith)))))

-- ---- rows one after the other

pub on : (first next : Verdict) → first ≡ accepted → and_then first next ≡ next
unfolding and_then
on first next e = rw e

pub off : (first next : Verdict) {code at : ℕ} → first ≡ refused code at → and_then first next ≡ refused code at
unfolding and_then
off first next e = rw e

pub both : (first next : Verdict) → and_then first next ≡ accepted → (first ≡ accepted) × (next ≡ accepted)
unfolding and_then
both accepted next e = (refl, e)
both (refused code at) next e = absurd (let z : ◌≡◌ {A = ℕ} 0 1 = cc in omega arith)

-- the rows of a table: all of one width
module _ (ws : List ℕ) (rules : ℕ → List Rule) (width : ℕ) (wide : (i : ℕ) → length (rules i) ≡ width) where
  pub one : (at first : ℕ) {count : ℕ} → 0 < count
      → rows_verdict ws rules at first count ≡ and_then (row_verdict ws at (rules first)) (rows_verdict ws rules (at + width) (suc first) (count - 1))
  unfolding rows_verdict
  one at first {count = zero} h = absurd (omega arith)
  one at first {count = suc count} h = let e : suc count - 1 ≡ count = omega arith in rw (e, wide first)

  pub rows_row : (at first count : ℕ) → rows_verdict ws rules at first count ≡ accepted
      → (i : ℕ) → i < count → row_verdict ws (at + i * width) (rules (first + i)) ≡ accepted
  unfolding rows_verdict
  rows_row at first zero h i l = absurd (omega arith)
  rows_row at first (suc count) h zero l =
      let e : at + 0 * width ≡ at = omega (arith, zero-mul width) in
      let f : first + 0 ≡ first = omega arith in
      rw (e, f) (both _ _ h).0
  rows_row at first (suc count) h (suc i) l =
      let e : at + suc i * width ≡ at + width + i * width = omega (arith, suc-mul i width) in
      let f : first + suc i ≡ suc first + i = omega arith in
      rw (e, f) (rows_row (at + width) (suc first) count (rw (wide first) at (both _ _ h).1) i (omega arith))

  pub row_rows : (at first count : ℕ) → ((i : ℕ) → i < count → row_verdict ws (at + i * width) (rules (first + i)) ≡ accepted)
      → rows_verdict ws rules at first count ≡ accepted
  unfolding rows_verdict
  row_rows at first zero h = refl
  row_rows at first (suc count) h =
      let e : at + 0 * width ≡ at = omega (arith, zero-mul width) in
      let f : first + 0 ≡ first = omega arith in
      let g : row_verdict ws at (rules first) ≡ accepted = rw (e, f) at (h 0 (omega arith)) in
      on _ _ g ∙ rw (wide first) (row_rows (at + width) (suc first) count λ i l.
      (let e : at + suc i * width ≡ at + width + i * width = omega (arith, suc-mul i width) in
      let f : first + suc i ≡ suc first + i = omega arith in
      rw (e, f) at (h (suc i) (omega arith))))
