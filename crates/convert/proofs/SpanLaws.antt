-- Laws of the two ends of spans, and of places without the second.
use Prim.Native.Nat.{ℕ, zero, suc, ◌+◌, ◌-◌, ◌*◌, ◌/◌, ◌≤◌, ◌<◌}
use mathlib.Core.Path.{◌≡◌, refl, sym, ◌∙◌}
use mathlib.Core.Bool.{Bool, true, false}
use mathlib.Core.List.{List, ◌++◌}
use native.Mathlib.Omega.{arith}
use native.Mathlib.Nat.{div-eq_of_lt, mul-div_cancel}
use lib.Dec.{eqb}
use lib.ListN.{length, get_or, take, drop, get_or-append, length-drop}
use lib.Seq.{length-take-le, get_or-take}
use Rattle.std.proofs.lemmas.List.{get_or-append-add, get_or-drop}
use borrow.Author.Tests.{lt-ltb, le-ltb, eq-eqb, ne_eqb}
use Rattle.std.specs.Prelude.{Option}
use Rattle.table.specs.Words.{word, block_count, instruction_count, blocks_begin, instructions_begin}
use Rattle.table.specs.Check.{Verdict, accepted, refused, and_then}
use Rattle.convert.specs.Convert.{ends_agree, spans_verdict}
use Rattle.convert.specs.Parts.{old_place, moved, apart_at}
use Rattle.text.proofs.WriteLaws.{rows_counted}

-- ---- a place of the old form

module _ (blocks instructions at : ℕ) where
  pub place_head : at < 6 → at ≡ old_place blocks instructions at
  unfolding old_place
  place_head p = rw (lt-ltb at 6 p, old_place)

  pub place_block : 6 ≤ at → at < 6 + blocks * 11 → at - (at - 6) / 11 ≡ old_place blocks instructions at
  unfolding old_place
  place_block p q = rw (le-ltb at 6 p, lt-ltb at (6 + blocks * 11) q, old_place)

  pub place_instruction : 6 ≤ at → 6 + blocks * 11 ≤ at → at < 6 + blocks * 11 + instructions * 7
      → at - blocks - (at - (6 + blocks * 11)) / 7 ≡ old_place blocks instructions at
  unfolding old_place
  place_instruction p q r = rw (le-ltb at 6 p, le-ltb at (6 + blocks * 11) q, lt-ltb at (6 + blocks * 11 + instructions * 7) r, old_place)

  pub place_rest : 6 ≤ at → 6 + blocks * 11 ≤ at → 6 + blocks * 11 + instructions * 7 ≤ at → at - blocks - instructions ≡ old_place blocks instructions at
  unfolding old_place
  place_rest p q r = rw (le-ltb at 6 p, le-ltb at (6 + blocks * 11) q, le-ltb at (6 + blocks * 11 + instructions * 7) r, old_place)

-- ---- the first `to` that differs from its `from`

module _ (words : List ℕ) (width at left : ℕ) where
  pub ends_more : 0 < left → get_or words (at + (width - 2)) 0 ≡ get_or words (at + (width - 1)) 0
      → ends_agree words width at left ≡ ends_agree words width (at + width) (left - 1)
  unfolding ends_agree word
  ends_more p e = by left p
    where
      by : (left : ℕ) → 0 < left → ends_agree words width at left ≡ ends_agree words width (at + width) (left - 1)
      by zero p = absurd (omega arith)
      by (suc left) p =
          let one : suc left - 1 ≡ left = omega arith in
          rw (one, eq-eqb (get_or words (at + (width - 2)) 0) (get_or words (at + (width - 1)) 0) e, ends_agree)

  pub ends_apart : 0 < left → (get_or words (at + (width - 2)) 0 ≡ get_or words (at + (width - 1)) 0 → ⊥)
      → ends_agree words width at left ≡ refused 52 (at + (width - 1))
  unfolding ends_agree word
  ends_apart p e = by left p
    where
      by : (left : ℕ) → 0 < left → ends_agree words width at left ≡ refused 52 (at + (width - 1))
      by zero p = absurd (omega arith)
      by (suc left) p = rw (ne_eqb (get_or words (at + (width - 2)) 0) (get_or words (at + (width - 1)) 0) e, ends_agree)

  pub ends_done : left ≤ 0 → ends_agree words width at left ≡ accepted
  unfolding ends_agree
  ends_done p = let none : left ≡ 0 = omega arith in rw none

-- the same rows behind other words
pub ends_moved : (width n : ℕ) (words rows : List ℕ) (begin at count : ℕ) → 1 ≤ width → at + count * width ≤ n
    → ((k : ℕ) → k < n → get_or rows k 0 ≡ get_or words (begin + k) 0)
    → moved (λ k. begin + k) (ends_agree rows width at count) ≡ ends_agree words width (begin + at) count
unfolding ends_agree word moved
ends_moved width n words rows begin at zero some within same = refl
ends_moved width n words rows begin at (suc count) some within same =
    let from : get_or rows (at + (width - 2)) 0 ≡ get_or words (begin + (at + (width - 2))) 0 = same (at + (width - 2)) (omega (arith, within, some)) in
    let to : get_or rows (at + (width - 1)) 0 ≡ get_or words (begin + (at + (width - 1))) 0 = same (at + (width - 1)) (omega (arith, within, some)) in
    let e : begin + at + (width - 2) ≡ begin + (at + (width - 2)) = omega arith in
    let f : begin + at + (width - 1) ≡ begin + (at + (width - 1)) = omega arith in
    let g : begin + (at + width) ≡ begin + at + width = omega arith in
    rw (ends_agree, from, to, e, f)
    (by (eqb (get_or words (begin + (at + (width - 2))) 0) (get_or words (begin + (at + (width - 1))) 0)) (sym f)
    (rw g at (ends_moved width n words rows begin (at + width) count some (omega (arith, within)) same)))
  where
    by : (same : Bool) → begin + (at + (width - 1)) ≡ begin + at + (width - 1)
        → moved (λ k. begin + k) (ends_agree rows width (at + width) count) ≡ ends_agree words width (begin + at + width) count
        → moved (λ k. begin + k) (elim same [ true ↦ ends_agree rows width (at + width) count | false ↦ refused 52 (at + (width - 1)) ])
        ≡ elim same [ true ↦ ends_agree words width (begin + at + width) count | false ↦ refused 52 (begin + at + (width - 1)) ]
    by true f h = h
    by false f h = rw f refl

moved_twice : (begin more : ℕ) (v : Verdict) → moved (λ k. begin + k) (moved (λ k. more + k) v) ≡ moved (λ k. begin + more + k) v
unfolding moved
moved_twice begin more accepted = refl
moved_twice begin more (refused code at) = let e : begin + (more + at) ≡ begin + more + at = omega arith in rw e refl

-- the rows of these words, as the iterator has them left; the first begins at `begin`
abbrev pub agree_from : (width begin : ℕ) → (rows : List ℕ) → Verdict
agree_from width begin rows = moved (λ at. begin + at) (ends_agree rows width 0 (length rows / width))

module _ (width begin : ℕ) (row rest : List ℕ) (two : 2 ≤ width) (long : length row ≡ width) where
  -- the ends of a row, read among all words
  in_all : (k : ℕ) → k < width → get_or (row ++ rest) (0 + k) 0 ≡ get_or row k 0
  in_all k h = let e : 0 + k ≡ k = omega arith in rw e (get_or-append row rest 0 k (omega (arith, long)))

  pub row_agrees : get_or row (width - 2) 0 ≡ get_or row (width - 1) 0 → agree_from width begin (row ++ rest) ≡ agree_from width (begin + width) rest
  row_agrees e =
      let many : length (row ++ rest) / width ≡ suc (length rest / width) = rows_counted width 0 row rest (omega arith) long in
      let ends = in_all (width - 2) (omega (arith, two)) ∙ (e ∙ sym (in_all (width - 1) (omega (arith, two)))) in
      let less : suc (length rest / width) - 1 ≡ length rest / width = omega arith in
      let more = rw less at (ends_more (row ++ rest) width 0 (suc (length rest / width)) (omega arith) ends) in
      let zero_more : width + 0 ≡ 0 + width = omega arith in
      let behind : (k : ℕ) → k < length rest / width * width → get_or rest k 0 ≡ get_or (row ++ rest) (width + k) 0 =
      λ k h. sym (rw long at (get_or-append-add row rest k 0)) in
      let shifted = rw zero_more at (ends_moved width (length rest / width * width) (row ++ rest) rest width 0 (length rest / width) (omega (arith, two)) (omega arith) behind) in
      rw (many, more, ← shifted) (moved_twice begin width (ends_agree rest width 0 (length rest / width)))

  pub row_apart : (get_or row (width - 2) 0 ≡ get_or row (width - 1) 0 → ⊥) → agree_from width begin (row ++ rest) ≡ refused 52 (begin + width - 1)
  unfolding moved
  row_apart f =
      let many : length (row ++ rest) / width ≡ suc (length rest / width) = rows_counted width 0 row rest (omega arith) long in
      let apart = ends_apart (row ++ rest) width 0 (suc (length rest / width)) (omega arith)
      (λ e. f (sym (in_all (width - 2) (omega (arith, two))) ∙ (e ∙ in_all (width - 1) (omega (arith, two))))) in
      let place : begin + (0 + (width - 1)) ≡ begin + width - 1 = omega (arith, two) in
      rw (many, apart, place) refl

pub rows_agree : (width begin : ℕ) (rest : List ℕ) → length rest < width → agree_from width begin rest ≡ accepted
unfolding moved
rows_agree width begin rest p = rw (div-eq_of_lt p, ends_done rest width 0 0 (omega arith)) refl

-- rows as a slice of the words has them
pub agree_between : (width count begin end : ℕ) (words : List ℕ) → 2 ≤ width → end ≡ begin + count * width → end ≤ length words
    → agree_from width begin (take (end - begin) (drop begin words)) ≡ ends_agree words width begin count
agree_between width count begin end words two e within =
    let long : end - begin ≡ count * width = omega (arith, e) in
    let some : 0 < width = omega (arith, two) in
    let zero_more : begin + 0 ≡ begin = omega arith in
    let cut : length (take (count * width) (drop begin words)) ≡ count * width =
    length-take-le (count * width) (drop begin words) (rw (length-drop begin words) (omega (arith, e, within))) in
    let same : (k : ℕ) → k < count * width → get_or (take (count * width) (drop begin words)) k 0 ≡ get_or words (begin + k) 0 =
    λ k h. get_or-take (count * width) (drop begin words) k 0 h ∙ get_or-drop begin words k 0 in
    rw (long, cut, mul-div_cancel count some)
    (rw zero_more at (ends_moved width (count * width) words (take (count * width) (drop begin words)) begin 0 count (omega (arith, two)) (omega arith) same))

-- blocks before instructions
module _ (words : List ℕ) where
  pub spans_blocks : (at : ℕ) → refused 52 at ≡ ends_agree words 11 6 (block_count words) → refused 52 at ≡ spans_verdict words
  unfolding spans_verdict blocks_begin and_then
  spans_blocks at e = rw (← e) refl

  pub spans_instructions : (at : Option ℕ) → accepted ≡ ends_agree words 11 6 (block_count words)
      → apart_at at ≡ ends_agree words 7 (instructions_begin words) (instruction_count words) → apart_at at ≡ spans_verdict words
  unfolding spans_verdict blocks_begin and_then
  spans_instructions at e h = rw (← e) h
