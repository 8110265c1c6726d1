-- Laws of widened words: where each word of the old ones stands in them.
use Prim.Native.Nat.{ℕ, zero, suc, ◌+◌, ◌-◌, ◌*◌, ◌/◌, ◌≤◌, ◌<◌}
use mathlib.Core.Path.{◌≡◌, refl, sym, ap, ◌∙◌}
use mathlib.Core.List.{List, [], ◌∷◌, ◌++◌, map, append_assoc}
use native.Mathlib.Omega.{arith}
use native.Mathlib.Nat.{div-eq_of_lt}
use lib.ListN.{length, get_or, take, drop, length-append, length-drop, get_or-append}
use lib.Seq.{take_all, drop-drop, drop_at, take_at, length-take-le, get_or-take, get_or-append-add, get_or-append_seam}
use Rattle.text.specs.Layout.{layout}
use Rattle.text.specs.Line.{cut, flat}
use Rattle.text.specs.declared.version.Version.TheVariants.{Old, New}
use borrow.Rule.Slice.PartMut.{put_mid, post_of}
use Rattle.convert.specs.Cut.{instructions_at, cases_at, places_at, identifiers_at, end_at, Shaped}
use Rattle.text.proofs.WriteLaws.{rows_open}
use Rattle.convert.proofs.CutLaws.{rows_between}
use Rattle.convert.proofs.GoodLaws.{behind}
use Rattle.convert.specs.Widen.{doubled, doubled_rows, widened}

-- ---- one row

pub length_doubled : (row : List ℕ) → length (doubled row) ≡ suc (length row)
unfolding doubled
length_doubled row = simp length-append (omega arith)

-- its own words, and the last once more
pub doubled_at : (row : List ℕ) (k : ℕ) → k < length row → get_or (doubled row) k 0 ≡ get_or row k 0
unfolding doubled
doubled_at row k p = get_or-append row _ 0 k p

pub doubled_end : (row : List ℕ) (k : ℕ) → k ≡ length row → get_or (doubled row) k 0 ≡ get_or row (length row - 1) 0
unfolding doubled
doubled_end row k e = rw e (get_or-append_seam row (get_or row (length row - 1) 0) [] 0)

-- ---- rows

pub doubled_open : (width count : ℕ) (words : List ℕ) → doubled_rows width (suc count) words ≡ doubled (take width words) ++ doubled_rows width count (drop width words)
unfolding doubled_rows cut flat
doubled_open width count words = refl

pub doubled_none : (width left : ℕ) (words : List ℕ) → left ≤ 0 → doubled_rows width left words ≡ []
unfolding doubled_rows cut flat
doubled_none width left words p = let none : left ≡ 0 = omega arith in rw none

-- a row's words and its last, as they are copied
pub doubled_more : (width : ℕ) (row rest written all : List ℕ) → 0 < width → length row ≡ width
    → written ++ doubled_rows width (length (row ++ rest) / width) (row ++ rest) ≡ all
    → (written ++ (row ++ (get_or row (width - 1) 0 ∷ []))) ++ doubled_rows width (length rest / width) rest ≡ all
unfolding doubled_rows doubled flat
doubled_more width row rest written all some long h =
    append_assoc written _ _ ∙ rw (rows_open width width row rest some (omega arith) long, take_all width row (omega (arith, long)), long) at h

pub doubled_end_of_rows : (width : ℕ) (rest : List ℕ) → length rest < width → doubled_rows width (length rest / width) rest ≡ []
doubled_end_of_rows width rest p = doubled_none width (length rest / width) rest (rw (div-eq_of_lt p) (omega arith))

-- those of so many words, as a slice has them
pub doubled_between : (width count begin end : ℕ) (words : List ℕ) → 0 < width → end ≡ begin + count * width → end ≤ length words
    → doubled_rows width (length (take (end - begin) (drop begin words)) / width) (take (end - begin) (drop begin words)) ≡ doubled_rows width count (drop begin words)
unfolding doubled_rows
doubled_between width count begin end words some e within =
    ap (λ (rows : List (List ℕ)). flat (map doubled rows)) (rows_between width width count begin end words some (omega arith) e within)

module _ (width : ℕ) (some : 1 ≤ width) where
  pub length_doubled_rows : (count : ℕ) (words : List ℕ) → count * width ≤ length words → length (doubled_rows width count words) ≡ count * suc width
  length_doubled_rows zero words p = rw (doubled_none width 0 words (omega arith)) (omega arith)
  length_doubled_rows (suc count) words p =
      let e : suc count * width ≡ width + count * width = omega arith in
      let l : length (take width words) ≡ width = length-take-le width words (omega arith) in
      rw (doubled_open width count words)
      (simp length-append (omega (arith, l, length_doubled (take width words), length_doubled_rows count (drop width words) (rw (length-drop width words) (omega arith)))))

  -- the words of a row
  pub doubled_word : (count : ℕ) (words rest : List ℕ) → count * width ≤ length words → (b k : ℕ) → b < count → k ≤ width
      → get_or (doubled_rows width count words ++ rest) (b * suc width + k) 0 ≡ get_or (doubled (take width (drop (b * width) words))) k 0
  doubled_word zero words rest p b k q r = absurd (omega arith)
  doubled_word (suc count) words rest p zero k q r =
      let e : suc count * width ≡ width + count * width = omega arith in
      let l : length (take width words) ≡ width = length-take-le width words (omega arith) in
      let z : 0 * suc width + k ≡ k = omega arith in
      let y : 0 * width ≡ 0 = omega arith in
      rw (z, y, doubled_open width count words, append_assoc)
      (get_or-append (doubled (take width words)) (doubled_rows width count (drop width words) ++ rest) 0 k (omega (arith, l, length_doubled (take width words))))
  doubled_word (suc count) words rest p (suc b) k q r =
      let e : suc count * width ≡ width + count * width = omega arith in
      let l : length (take width words) ≡ width = length-take-le width words (omega arith) in
      let z : suc b * suc width + k ≡ length (doubled (take width words)) + (b * suc width + k) = omega (arith, l, length_doubled (take width words)) in
      let y : suc b * width ≡ width + b * width = omega arith in
      rw (z, y, doubled_open width count words, append_assoc)
      (get_or-append-add (doubled (take width words)) (doubled_rows width count (drop width words) ++ rest) (b * suc width + k) 0
      ∙ doubled_word count (drop width words) rest (rw (length-drop width words) (omega arith)) b k (omega arith) r
      ∙ ap (λ (l : List ℕ). get_or (doubled (take width l)) k 0) (drop-drop (b * width) width words))

  first_of : (row more : List ℕ) → length row ≡ width → take width (doubled row ++ more) ≡ row
  unfolding doubled
  first_of row more l = rw append_assoc (take_at row _ width l)

  -- the rows, their last words left out again
  pub cut_doubled : (count : ℕ) (words rest : List ℕ) → count * width ≤ length words
      → cut (suc width) width count (doubled_rows width count words ++ rest) ≡ cut width width count words
  unfolding cut
  cut_doubled zero words rest p = refl
  cut_doubled (suc count) words rest p =
      let e : suc count * width ≡ width + count * width = omega arith in
      let l : length (take width words) ≡ width = length-take-le width words (omega arith) in
      let more = doubled_rows width count (drop width words) ++ rest in
      let first : take width (doubled (take width words) ++ more) ≡ take width words = first_of (take width words) more l in
      let behind_it : drop (suc width) (doubled (take width words) ++ more) ≡ more = drop_at (doubled (take width words)) more (suc width) (length_doubled (take width words) ∙ ap suc l) in
      rw (doubled_open width count words, append_assoc, first, behind_it, cut_doubled count (drop width words) rest (rw (length-drop width words) (omega arith)))

-- words put behind those that stand first
put_behind : (a k n : ℕ) (words part done : List ℕ) → take a words ≡ done → n ≡ length done + length part → take n (put_mid a k words part) ≡ done ++ part
put_behind a k n words part done e long =
    rw e (ap (take n) (sym (append_assoc done part (post_of a k words))) ∙ take_at (done ++ part) _ n (omega (arith, long, length-append done part)))

-- ---- the whole

module _ (old : List ℕ) (shaped : Shaped (layout Old) old) where
  abbrev blocks : ℕ
  blocks = get_or old 1 0

  abbrev instructions : ℕ
  instructions = get_or old 2 0

  abbrev wide : List ℕ
  wide = widened old

  head_long : length (take 6 old) ≡ 6
  head_long = length-take-le 6 old shaped.head

  pub blocks_fit : blocks * 10 ≤ length (drop 6 old)
  unfolding end_at identifiers_at places_at cases_at instructions_at
  blocks_fit = rw (length-drop 6 old) (omega (arith, shaped.long))

  pub instructions_fit : instructions * 6 ≤ length (drop (instructions_at (layout Old) old) old)
  unfolding end_at identifiers_at places_at cases_at instructions_at
  instructions_fit = rw (length-drop (instructions_at (layout Old) old) old) (omega (arith, shaped.long))

  pub wide_head : (k : ℕ) → k < 6 → get_or wide k 0 ≡ get_or old k 0
  unfolding widened
  wide_head k p = get_or-append (take 6 old) _ 0 k (omega (arith, head_long)) ∙ get_or-take 6 old k 0 p

  pub wide_six : take 6 wide ≡ take 6 old
  unfolding widened
  wide_six = take_at (take 6 old) _ 6 head_long

  abbrev from_instructions : List ℕ
  from_instructions = doubled_rows 6 instructions (drop (instructions_at (layout Old) old) old) ++ drop (cases_at (layout Old) old) old

  pub wide_blocks : drop 6 wide ≡ doubled_rows 10 blocks (drop 6 old) ++ from_instructions
  unfolding widened
  wide_blocks = drop_at (take 6 old) _ 6 head_long

  pub wide_instructions : drop (6 + blocks * 11) wide ≡ from_instructions
  wide_instructions = behind wide (doubled_rows 10 blocks (drop 6 old)) from_instructions 6 (blocks * 11) wide_blocks (length_doubled_rows 10 (omega arith) blocks (drop 6 old) blocks_fit)

  pub wide_rest : drop (6 + blocks * 11 + instructions * 7) wide ≡ drop (cases_at (layout Old) old) old
  wide_rest =
      behind wide (doubled_rows 6 instructions (drop (instructions_at (layout Old) old) old)) _ (6 + blocks * 11) (instructions * 7) wide_instructions
      (length_doubled_rows 6 (omega arith) instructions _ instructions_fit)

  pub at_instructions : drop (instructions_at (layout New) wide) wide ≡ doubled_rows 6 (get_or old 2 0) (drop (instructions_at (layout Old) old) old) ++ drop (cases_at (layout Old) old) old
  unfolding instructions_at
  at_instructions = rw (wide_head 1 (omega arith)) (wide_instructions)

  -- where the last tables begin
  pub at_cases : drop (cases_at (layout New) wide) wide ≡ drop (cases_at (layout Old) old) old
  unfolding cases_at instructions_at
  at_cases = rw (wide_head 1 (omega arith), wide_head 2 (omega arith)) (wide_rest)

  pub at_places : drop (places_at (layout New) wide) wide ≡ drop (places_at (layout Old) old) old
  unfolding places_at
  at_places =
      sym (drop-drop (get_or wide 3 0 * 2) (cases_at (layout New) wide) wide)
      ∙ rw (at_cases, wide_head 3 (omega arith)) (drop-drop (get_or old 3 0 * 2) (cases_at (layout Old) old) old)

  pub at_identifiers : drop (identifiers_at (layout New) wide) wide ≡ drop (identifiers_at (layout Old) old) old
  unfolding identifiers_at
  at_identifiers =
      sym (drop-drop (get_or wide 4 0 * 1) (places_at (layout New) wide) wide)
      ∙ rw (at_places, wide_head 4 (omega arith)) (drop-drop (get_or old 4 0 * 1) (places_at (layout Old) old) old)

  pub length_wide : length wide ≡ length old + blocks + instructions
  unfolding widened end_at identifiers_at places_at cases_at instructions_at
  length_wide =
      simp length-append (omega (
        arith,
        head_long,
        length_doubled_rows 10 (omega arith) blocks (drop 6 old) blocks_fit,
        length_doubled_rows 6 (omega arith) instructions (drop (instructions_at (layout Old) old) old) instructions_fit,
        length-drop (cases_at (layout Old) old) old,
        shaped.long,
      ))

  pub wide_shaped : Shaped (layout New) wide
  unfolding end_at identifiers_at places_at cases_at instructions_at
  wide_shaped = record {
    head = omega (arith, length_wide, shaped.head);
    long = rw (wide_head 1 (omega arith), wide_head 2 (omega arith), wide_head 3 (omega arith), wide_head 4 (omega arith), wide_head 5 (omega arith)) (omega (arith, length_wide, shaped.long));
  }

  -- 16,384 words become at most 19,456
  pub wide_most : length old ≤ 16384 → length wide ≤ 19456
  unfolding end_at identifiers_at places_at cases_at instructions_at
  wide_most p = omega (arith, length_wide, shaped.long)

  -- the parts, put one behind the other
  pub widened_put : (k₁ k₂ k₃ : ℕ) (head wide_blocks wide_instructions rest more : List ℕ)
      → head ≡ take 6 old
      → wide_blocks ≡ doubled_rows 10 blocks (drop 6 old)
      → wide_instructions ≡ doubled_rows 6 instructions (drop (6 + blocks * 10) old)
      → rest ≡ drop (6 + blocks * 10 + instructions * 6) old
      → take (length old + blocks + instructions)
      (put_mid (6 + blocks * 10 + instructions * 6 + blocks + instructions) k₃
      (put_mid (6 + blocks * 10 + blocks) k₂ (put_mid 6 k₁ (head ++ more) wide_blocks) wide_instructions) rest)
      ≡ widened old
  unfolding widened cases_at instructions_at end_at identifiers_at places_at
  widened_put k₁ k₂ k₃ head wide_blocks wide_instructions rest more h b i r =
      let six : length head ≡ 6 = rw h head_long in
      let blocks_long : length wide_blocks ≡ blocks * 11 = rw b (length_doubled_rows 10 (omega arith) blocks (drop 6 old) blocks_fit) in
      let instructions_long : length wide_instructions ≡ instructions * 7 =
      rw i (length_doubled_rows 6 (omega arith) instructions _ instructions_fit) in
      let rest_long : length rest ≡ length old - (6 + blocks * 10 + instructions * 6) = rw r (length-drop _ old) in
      let one = put_behind 6 k₁ (6 + blocks * 10 + blocks) (head ++ more) wide_blocks head (take_at head more 6 six) (omega (arith, six, blocks_long)) in
      let long = length-append head wide_blocks in
      let two = put_behind _ k₂ (6 + blocks * 10 + instructions * 6 + blocks + instructions) _ wide_instructions _ one
      (omega (arith, six, blocks_long, instructions_long, long)) in
      let three = put_behind _ k₃ (length old + blocks + instructions) _ rest _ two
      (omega (arith, six, blocks_long, instructions_long, rest_long, long, length-append (head ++ wide_blocks) wide_instructions, shaped.long)) in
      three ∙ rw (h, b, i, r) (simp append_assoc refl)

pub old_within : (old : List ℕ) → Shaped (layout Old) old → (6 ≤ length old) × (6 + get_or old 1 0 * 10 + get_or old 2 0 * 6 ≤ length old)
unfolding end_at identifiers_at places_at cases_at instructions_at
old_within old shaped = (shaped.head, omega (arith, shaped.long))

-- the words from a place on, as a slice has them
pub rest_whole : (words : List ℕ) (at : ℕ) → take (length words - at) (drop at words) ≡ drop at words
rest_whole words at = take_all (length words - at) (drop at words) (omega (arith, length-drop at words))
