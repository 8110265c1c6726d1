-- The rows one by one, and the whole list.
use mathlib.Core.Path.{◌≡◌, refl, sym, ap, ◌∙◌}
use mathlib.Core.Logic.{◌⊎◌, inl, inr}
use Prim.Native.Nat.{ℕ, zero, suc, ◌+◌, ◌*◌, ◌-◌, ◌/◌, ◌<◌, ◌≤◌}
use native.Mathlib.Numerals.{add-one}
use native.Mathlib.Omega.{arith}
use mathlib.Core.List.{List}
use mathlib.Core.Bool.{Bool, true, false, ◌&&◌}
use lib.ListN.{length, get_or, set, length-set, replicate, length-replicate}
use lib.Seq.{get_or-set_same, get_or-set_other}
use lib.Dec.{eqb, leb}
use borrow.Author.Tests.{eq-eqb, ne_eqb, eqb-true, eqb-false, le-leb, lt-leb}
use Rattle.std.specs.Prelude.{Option, None, Some, Ok, Err, ok_or}
use Rattle.tree_grammar.specs.Ranges.{in_range}
use Rattle.tree_grammar.specs.Needs.{parts_of}
use Rattle.tree_check.specs.Found.{row_at, parts_begin, Ready, one_root, read_from, no_begins, no_list, tree_read}
use Rattle.tree_check.specs.declared.TreeError.{TreeError}
use Rattle.tree_check.specs.declared.TreeError.TheVariants.{RowOutOfRange, PartsMissing, NotOneTree}
use Rattle.tree_check.proofs.PartLaws.{found_low}

-- ---- beginnings that lie low

zeros : (n k : ℕ) → ◌≡◌ {A = ℕ} (get_or (replicate n 0) k 0) 0
zeros zero k = refl
zeros (suc n) zero = refl
zeros (suc n) (suc k) = zeros n k

no_begins_low : (k : ℕ) → get_or no_begins k 0 ≤ k
unfolding no_begins
no_begins_low k = let z : ◌≡◌ {A = ℕ} (get_or (replicate 2048 0) k 0) 0 = zeros 2048 k in omega arith

pub start_ready : (words : List ℕ) → Ready words no_begins 0
unfolding no_begins
start_ready words = record { whole = omega arith; few = omega arith; size = length-replicate {A = ℕ} 2048 0; low = no_begins_low }

pub set_low : (begins : List ℕ) (row first : ℕ) → ((k : ℕ) → get_or begins k 0 ≤ k) → row < length begins → first ≤ row → (k : ℕ) → get_or (set begins row first) k 0 ≤ k
set_low begins row first low h l k = by (eqb k row) refl
  where
    by : (y : Bool) → eqb k row ≡ y → get_or (set begins row first) k 0 ≤ k
    by true e = let z : k ≡ row = eqb-true k row e in rw (z, get_or-set_same begins row first 0 h) l
    by false e = rw (get_or-set_other begins row k first 0 (eqb-false k row e)) (low k)

and_false : (x : Bool) → x && false ≡ false
and_false true = refl
and_false false = refl

-- ---- the rows that are read, by the struct that holds them

module _ {words words' begins begins' : List ℕ} {rows rows' : ℕ} (w : words' ≡ words) (b : begins' ≡ begins) (r : rows' ≡ rows) where
  pub next_of_read : {found : Option ℕ} → found ≡ parts_begin words' begins' (parts_of (row_at words' rows')) rows' → found ≡ parts_begin words begins (parts_of (row_at words rows)) rows
  next_of_read e = rw (← w, ← b, ← r) e

  pub root_of_read : {one : Bool} → one ≡ one_root words' begins' rows' → one ≡ one_root words begins rows
  root_of_read e = rw (← w, ← b, ← r) e

-- what is left of the reading gives what the whole gives
pub record Reading (words begins : List ℕ) (rows row : ℕ) : Type 0 where
  pub rest : read_from words no_begins 0 rows ≡ read_from words begins row (rows - row)
  pub ready : Ready words begins row
  pub most : row ≤ rows

module _ (words begins : List ℕ) (rows row : ℕ) where
  module _ (r : Reading words begins rows row) (h : row < rows) where
    one_more : rows - row ≡ suc (rows - (row + 1))
    one_more = omega arith

    pub row_out : {fits : Bool} → fits ≡ in_range (row_at words row) → fits ≡ false → record { answer = Err (RowOutOfRange row); begin = begins } ≡ read_from words no_begins 0 rows
    row_out is e = sym (r.rest ∙ (ap (read_from words begins row) one_more ∙ (unfold read_from in rw (sym is ∙ e, read_from))))

    module _ {fits : Bool} (is : fits ≡ in_range (row_at words row)) (e : fits ≡ true) {found : Option ℕ} (parts : found ≡ parts_begin words begins (parts_of (row_at words row)) row) where
      in_range_lem : in_range (row_at words row) ≡ true
      in_range_lem = sym is ∙ e

      pub row_missing : {error : TreeError} → Err error ≡ ok_or found (PartsMissing row) → record { answer = Err error; begin = begins } ≡ read_from words no_begins 0 rows
      unfolding read_from
      row_missing {error} q = by found parts q
        where
          by : (o : Option ℕ) → o ≡ parts_begin words begins (parts_of (row_at words row)) row
              → Err error ≡ ok_or o (PartsMissing row) → record { answer = Err error; begin = begins } ≡ read_from words no_begins 0 rows
          by None p q =
              let z : error ≡ PartsMissing row = cc in
              ap (λ (e : TreeError). record { answer = Err e; begin = begins }) z ∙ sym (r.rest ∙ (ap (read_from words begins row) one_more ∙ rw (in_range_lem, ← p, read_from)))
          by (Some first) p q = cc

      pub row_on : rows ≤ 2048 → length words ≡ rows * 6 → {first : ℕ} → Ok first ≡ ok_or found (PartsMissing row) → Reading words (set begins row first) rows (row + 1)
      unfolding read_from
      row_on few whole {first} q = by found parts q
        where
          by : (o : Option ℕ) → o ≡ parts_begin words begins (parts_of (row_at words row)) row → Ok first ≡ ok_or o (PartsMissing row) → Reading words (set begins row first) rows (row + 1)
          by None p q = cc
          by (Some k) p q =
              let z : k ≡ first = cc in
              let there : parts_begin words begins (parts_of (row_at words row)) row ≡ Some first = sym p ∙ ap Some z in
              record {
                rest = r.rest ∙ (ap (read_from words begins row) one_more ∙ rw (in_range_lem, there, read_from, add-one));
                ready = record {
                  whole = omega arith;
                  few = omega arith;
                  size = length-set begins row first ∙ r.ready.size;
                  low = set_low begins row first r.ready.low (omega (arith, r.ready.size)) (found_low words begins r.ready.low (parts_of (row_at words row)) row first there);
                };
                most = omega arith;
              }

  pub rows_read : Reading words begins rows row → rows ≤ row → {one : Bool} → one ≡ one_root words begins rows
      → record { answer = elim one [ true ↦ Ok tt | false ↦ Err NotOneTree ]; begin = begins } ≡ read_from words no_begins 0 rows
  rows_read r h {one} e =
      let z : row ≡ rows = omega (arith, r.most) in
      let n : rows - row ≡ 0 = omega arith in
      sym (r.rest ∙ (rw (n, z) (unfold read_from in rw e)))

pub reading_start : (words : List ℕ) (rows : ℕ) → Reading words no_begins rows 0
reading_start words rows = let z : rows ≡ rows - 0 = omega arith in record { rest = ap (read_from words no_begins 0) z; ready = start_ready words; most = omega arith }

-- ---- the list's length

module _ (words : List ℕ) where
  abbrev whole : Type 0
  whole = length words ≡ length words / 6 * 6

  pub not_sized : (whole → ⊥) ⊎ ((whole × (length words / 6 ≡ 0)) ⊎ (whole × (length words / 6 ≡ 0 → ⊥) × (2048 < length words / 6))) → no_list ≡ tree_read words
  unfolding tree_read
  not_sized (inl f) = rw (ne_eqb (length words) (length words / 6 * 6) f, tree_read)
  not_sized (inr (inl (_, z))) = rw (lt-leb 1 (length words / 6) (omega arith), and_false (eqb (length words) (length words / 6 * 6)), tree_read)
  not_sized (inr (inr (_, _, h))) = rw (lt-leb (length words / 6) 2048 h, and_false (leb 1 (length words / 6)), and_false (eqb (length words) (length words / 6 * 6)), tree_read)

  pub sized : length words ≡ length words / 6 * 6 → (length words / 6 ≡ 0 → ⊥) → length words / 6 ≤ 2048 → read_from words no_begins 0 (length words / 6) ≡ tree_read words
  unfolding tree_read
  sized e f h = rw (eq-eqb (length words) (length words / 6 * 6) e, le-leb 1 (length words / 6) (omega (arith, f)), le-leb (length words / 6) 2048 h, tree_read)
