-- How long the texts are: the old one is no longer than the new one, and the new one at most twice as long as the old one, and six bytes.
use Prim.Native.Nat.{ℕ, zero, suc, ◌+◌, ◌-◌, ◌*◌, ◌≤◌, ◌<◌}
use mathlib.Core.Path.{◌≡◌, refl, ap, ◌∙◌}
use mathlib.Core.List.{List, [], ◌∷◌, ◌++◌, map, append_assoc}
use native.Mathlib.Omega.{arith}
use native.Mathlib.Numerals.{add-one}
use lib.ListN.{length, get_or, take, drop, length-append, length-drop}
use lib.Seq.{take-add, take_at, drop_at, length-take-le}
use Rattle.text.specs.Line.{line, lines, cut}
use Rattle.text.specs.Layout.{Layout, layout}
use Rattle.text.specs.File.{Tables, text_of}
use Rattle.text.specs.declared.version.Version.TheVariants.{Old, New}
use Rattle.convert.specs.Cut.{instructions_at, cases_at, places_at, identifiers_at, Shaped, tables_in, text_in}
use Rattle.convert.specs.Write.{table_text}
use Rattle.convert.specs.Widen.{doubled, doubled_rows, widened}
use Rattle.convert.specs.Convert.{old_text}
use Rattle.convert.proofs.WidenLaws.{length_doubled, doubled_open, blocks_fit, instructions_fit, wide_six, wide_head, wide_blocks, at_instructions, at_cases, at_places, at_identifiers}

-- ---- a line

line_append : (a b : List ℕ) → length (line (a ++ b)) ≡ length (line a) + length (line b)
unfolding line
line_append [] b = omega arith
line_append (n ∷ a) b = simp length-append (omega (arith, line_append a b))

-- a number of the line
line_part : (row : List ℕ) (k : ℕ) → k < length row → length (line (get_or row k 0 ∷ [])) ≤ length (line row)
unfolding line
line_part [] k p = absurd (omega arith)
line_part (n ∷ row) zero p = simp length-append (omega arith)
line_part (n ∷ row) (suc k) p = simp length-append (omega (arith, simp length-append at (line_part row k (omega arith))))

line_doubled : (row : List ℕ) → 1 ≤ length row → length (line (doubled row)) ≤ 2 * length (line row)
unfolding doubled
line_doubled row p = omega (arith, line_append row (get_or row (length row - 1) 0 ∷ []), line_part row (length row - 1) (omega arith))

-- ---- rows

-- a column less
lines_narrower : (stride columns count : ℕ) (words : List ℕ) → length (lines (cut stride columns count words)) ≤ length (lines (cut stride (suc columns) count words))
unfolding cut lines
lines_narrower stride columns zero words = omega arith
lines_narrower stride columns (suc count) words =
    let e : take (suc columns) words ≡ take columns words ++ take 1 (drop columns words) = rw (← (add-one columns)) (take-add columns 1 words) in
    let l : length (line (take (suc columns) words)) ≡ length (line (take columns words)) + length (line (take 1 (drop columns words))) = rw e
    (line_append (take columns words) (take 1 (drop columns words))) in
    simp length-append (omega (arith, l, lines_narrower stride columns count (drop stride words)))

-- the last word twice
lines_doubled : (width count : ℕ) (words : List ℕ) → 1 ≤ width → count * width ≤ length words
    → length (lines (map doubled (cut width width count words))) ≤ 2 * length (lines (cut width width count words))
unfolding cut lines
lines_doubled width zero words p q = omega arith
lines_doubled width (suc count) words p q =
    let e : suc count * width ≡ width + count * width = omega arith in
    let l : length (take width words) ≡ width = length-take-le width words (omega arith) in
    simp length-append (omega (arith, line_doubled (take width words) (omega (arith, l)), lines_doubled width count (drop width words) p (rw (length-drop width words) (omega arith))))

-- ---- the texts

length_text : (f : Layout) (t : Tables)
    → length (text_of f t)
    ≡ length f.head.names + length (line t.head)
    + (length f.blocks.names + length (lines t.blocks))
    + (length f.instructions.names + length (lines t.instructions))
    + (length f.cases.names + length (lines t.cases))
    + (length f.places.names + length (lines t.places))
    + (length f.identifiers.names + length (lines t.identifiers))
length_text f t = simp length-append (omega arith)

pub old_shorter : (words : List ℕ) → length (old_text words) ≤ length (table_text words)
unfolding old_text text_in tables_in
old_shorter words =
    simp length-append (omega (arith, lines_narrower 11 10 (get_or words 1 0) (drop 6 words), lines_narrower 7 6 (get_or words 2 0) (drop (instructions_at (layout New) words) words)))

-- ---- the new text

-- the rows of widened words, each with its last word twice
doubled_cut : (width : ℕ) → 1 ≤ width → (count : ℕ) (words rest : List ℕ) → count * width ≤ length words
    → cut (suc width) (suc width) count (doubled_rows width count words ++ rest) ≡ map doubled (cut width width count words)
unfolding cut
doubled_cut width some zero words rest p = refl
doubled_cut width some (suc count) words rest p =
    let e : suc count * width ≡ width + count * width = omega arith in
    let l : length (doubled (take width words)) ≡ suc width = length_doubled (take width words) ∙ ap suc (length-take-le width words (omega arith)) in
    let more = doubled_rows width count (drop width words) ++ rest in
    let first : take (suc width) (doubled (take width words) ++ more) ≡ doubled (take width words) = take_at (doubled (take width words)) more (suc width) l in
    let behind_it : drop (suc width) (doubled (take width words) ++ more) ≡ more = drop_at (doubled (take width words)) more (suc width) l in
    rw (doubled_open width count words, append_assoc, first, behind_it, doubled_cut width some count (drop width words) rest (rw (length-drop width words) (omega arith)))

module _ (old : List ℕ) (shaped : Shaped (layout Old) old) where
  abbrev wide : List ℕ
  wide = widened old

  blocks_most : length (lines (cut 11 11 (get_or wide 1 0) (drop 6 wide))) ≤ 2 * length (lines (cut 10 10 (get_or old 1 0) (drop 6 old)))
  blocks_most =
      rw (wide_head old shaped 1 (omega arith), wide_blocks old shaped, doubled_cut 10 (omega arith) (get_or old 1 0) (drop 6 old) _ (blocks_fit old shaped))
      (lines_doubled 10 (get_or old 1 0) (drop 6 old) (omega arith) (blocks_fit old shaped))

  instructions_most : length (lines (cut 7 7 (get_or wide 2 0) (drop (instructions_at (layout New) wide) wide)))
      ≤ 2 * length (lines (cut 6 6 (get_or old 2 0) (drop (instructions_at (layout Old) old) old)))
  instructions_most =
      rw (at_instructions old shaped, wide_head old shaped 2 (omega arith), doubled_cut 6 (omega arith) (get_or old 2 0) (drop (instructions_at (layout Old) old) old) _ (instructions_fit old shaped))
      (lines_doubled 6 (get_or old 2 0) (drop (instructions_at (layout Old) old) old) (omega arith) (instructions_fit old shaped))

  pub new_most : length (table_text wide) ≤ 2 * length (text_in (layout Old) (layout Old) old) + 6
  unfolding text_in tables_in
  new_most =
      let h : line (take 6 wide) ≡ line (take 6 old) = rw (wide_six old shaped) in
      let c : lines (cut 2 2 (get_or wide 3 0) (drop (cases_at (layout New) wide) wide)) ≡ lines (cut 2 2 (get_or old 3 0) (drop (cases_at (layout Old) old) old)) =
      rw (at_cases old shaped, wide_head old shaped 3 (omega arith)) in
      let p : lines (cut 1 1 (get_or wide 4 0) (drop (places_at (layout New) wide) wide)) ≡ lines (cut 1 1 (get_or old 4 0) (drop (places_at (layout Old) old) old)) =
      rw (at_places old shaped, wide_head old shaped 4 (omega arith)) in
      let d : lines (cut 1 1 (get_or wide 5 0) (drop (identifiers_at (layout New) wide) wide)) ≡ lines
      (cut 1 1 (get_or old 5 0) (drop (identifiers_at (layout Old) old) old)) = rw (at_identifiers old shaped, wide_head old shaped 5 (omega arith)) in
      omega (
        arith,
        length_text (layout New) (tables_in (layout New) (layout New) wide),
        length_text (layout Old) (tables_in (layout Old) (layout Old) old),
        blocks_most,
        instructions_most,
        ap (λ (l : List ℕ). length l) h,
        ap (λ (l : List ℕ). length l) c,
        ap (λ (l : List ℕ). length l) p,
        ap (λ (l : List ℕ). length l) d,
      )
