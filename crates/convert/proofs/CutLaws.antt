-- Laws of words cut into rows.
use Prim.Native.Nat.{ℕ, zero, suc, ◌+◌, ◌*◌, ◌-◌, ◌≤◌, ◌<◌}
use mathlib.Core.Path.{◌≡◌, refl, ap}
use mathlib.Core.List.{List, [], ◌∷◌, ◌++◌, append_assoc}
use native.Mathlib.Omega.{arith}
use native.Mathlib.Nat.{mul-div_cancel}
use lib.ListN.{length, take, drop, length-drop}
use lib.Seq.{take-add, take_at, drop_at, length-take-le, take-take}
use Rattle.std.proofs.lemmas.List.{drop-take}
use Rattle.text.specs.File.{Rows}
use Rattle.text.specs.Line.{cut, rows_in, flat}
use Rattle.text.proofs.WriteLaws.{Narrow, narrow_words, narrow_take, narrow_drop}

-- ---- the whole rows of words

module _ (stride columns : ℕ) where
  cut_take : (count : ℕ) (words : List ℕ) → columns ≤ stride → cut stride columns count (take (count * stride) words) ≡ cut stride columns count words
  unfolding cut
  cut_take zero words p = refl
  cut_take (suc count) words p =
      let e : suc count * stride ≡ stride + count * stride = omega arith in
      rw (e, take-take columns (stride + count * stride) words (omega arith), drop-take stride (count * stride) words, cut_take count (drop stride words) p)

  -- those of so many words are so many
  pub rows_taken : (count : ℕ) (words : List ℕ) → 0 < stride → columns ≤ stride → count * stride ≤ length words
      → rows_in stride columns (take (count * stride) words) ≡ cut stride columns count words
  rows_taken count words some fits within =
      rw (length-take-le (count * stride) words within, mul-div_cancel count some) (cut_take count words fits)

-- the rows of a table, as a slice has them
pub rows_between : (stride columns count begin end : ℕ) (words : List ℕ) → 0 < stride → columns ≤ stride → end ≡ begin + count * stride → end ≤ length words
    → rows_in stride columns (take (end - begin) (drop begin words)) ≡ cut stride columns count (drop begin words)
rows_between stride columns count begin end words some fits e within =
    let long : end - begin ≡ count * stride = omega (arith, e) in
    rw long (rows_taken stride columns count (drop begin words) some fits (rw (length-drop begin words) (omega (arith, e))))

-- ---- the words of the rows, and the rows of the words

pub flat_cut : (width count : ℕ) (words : List ℕ) → flat (cut width width count words) ≡ take (count * width) words
unfolding cut flat
flat_cut width zero words = let e : 0 * width ≡ 0 = omega arith in rw e
flat_cut width (suc count) words =
    let e : suc count * width ≡ width + count * width = omega arith in
    rw (e, take-add width (count * width) words, flat_cut width count (drop width words))

pub cut_many : (stride columns count : ℕ) (words : List ℕ) → length (cut stride columns count words) ≡ count
unfolding cut
cut_many stride columns zero words = refl
cut_many stride columns (suc count) words = ap suc (cut_many stride columns count (drop stride words))

-- rows of 32 bits
pub cut_rows : (stride columns count : ℕ) (words : List ℕ) → columns ≤ stride → count * stride ≤ length words → Narrow words → Rows columns (cut stride columns count words)
unfolding cut
cut_rows stride columns zero words c p n = tt
cut_rows stride columns (suc count) words c p n =
    let e : suc count * stride ≡ stride + count * stride = omega arith in (
      record { long = length-take-le columns words (omega arith); words = narrow_words (take columns words) (narrow_take columns words n) },
      cut_rows stride columns count (drop stride words) c (rw (length-drop stride words) (omega arith)) (narrow_drop stride words n),
    )

-- the rows that stand first in the words
pub cut_flat : (width : ℕ) (rows : List (List ℕ)) (rest : List ℕ) → Rows width rows → cut width width (length rows) (flat rows ++ rest) ≡ rows
unfolding cut flat
cut_flat width [] rest h = refl
cut_flat width (row ∷ rows) rest h =
    rw (append_assoc row (flat rows) rest, take_at row (flat rows ++ rest) width h.0.long, drop_at row (flat rows ++ rest) width h.0.long, cut_flat width rows rest h.1)
