-- The text of words is a good file with these words, and a good file is the text of its words: so the text is canonical.
use Prim.Native.Nat.{ℕ, zero, suc, ◌+◌, ◌*◌, ◌≤◌, ◌<◌}
use mathlib.Core.Path.{◌≡◌, refl, sym, ap, ◌∙◌}
use mathlib.Core.List.{List, [], ◌∷◌, ◌++◌, append_assoc, append-nil}
use native.Mathlib.Omega.{arith}
use lib.ListN.{length, get_or, take, drop, length-append, length-drop, take-append-drop, get_or-append}
use lib.Seq.{take-add, drop-drop, take_all, take_at, drop_at, length-take-le, get_or-take}
use Rattle.text.specs.Layout.{Layout, layout}
use Rattle.text.specs.Line.{cut, flat}
use Rattle.text.specs.File.{Tables, Words, Rows, Table, Formed, Good, text_of, words_of}
use Rattle.text.specs.declared.version.Version.{Version}
use Rattle.text.specs.declared.version.Version.TheVariants.{Old, New}
use Rattle.text.proofs.WriteLaws.{Narrow, narrow_words, narrow_take, narrow_drop}
use Rattle.convert.specs.Cut.{instructions_at, cases_at, places_at, identifiers_at, end_at, Shaped, tables_in, text_in}
use Rattle.convert.proofs.CutLaws.{flat_cut, cut_flat, cut_rows, cut_many}

-- ---- words that are cut are the words

-- the words from `a` on: so many, and those behind them
split_from : (words : List ℕ) (a n : ℕ) → drop a words ≡ take n (drop a words) ++ drop (a + n) words
split_from words a n = sym (take-append-drop n (drop a words)) ∙ ap (λ (l : List ℕ). take n (drop a words) ++ l) (drop-drop n a words)

-- a form whose head has six numbers, as both have
abbrev pub Six : Layout → Type 0
Six f = f.head.width ≡ 6

module _ (f : Layout) (words : List ℕ) (shaped : Shaped f words) where
  last_words : take (get_or words 5 0 * f.identifiers.width) (drop (identifiers_at f words) words) ≡ drop (identifiers_at f words) words
  unfolding end_at
  last_words = take_all (get_or words 5 0 * f.identifiers.width) (drop (identifiers_at f words) words) (rw (length-drop (identifiers_at f words) words) (omega (arith, shaped.long)))

  pub words_cut : words_of (tables_in f f words) ≡ words
  unfolding tables_in identifiers_at places_at cases_at instructions_at
  words_cut =
      let b = get_or words 1 0 * f.blocks.width in
      let i = get_or words 2 0 * f.instructions.width in
      let c = get_or words 3 0 * f.cases.width in
      let p = get_or words 4 0 * f.places.width in
      rw (
        flat_cut f.blocks.width (get_or words 1 0) (drop 6 words),
        flat_cut f.instructions.width (get_or words 2 0) _,
        flat_cut f.cases.width (get_or words 3 0) _,
        flat_cut f.places.width (get_or words 4 0) _,
        flat_cut f.identifiers.width (get_or words 5 0) _,
        last_words,
      )
      (rw (← (take-add 6 b words), ← (take-add (6 + b) i words), ← (take-add (6 + b + i) c words), ← (take-add (6 + b + i + c) p words)) (take-append-drop (6 + b + i + c + p) words))

-- ---- the tables of words are formed

-- no row of `to` is longer than one of `from`, and both heads have six numbers
pub record Narrower (from to : Layout) : Type 0 where
  pub head : to.head.width ≡ 6
  pub blocks : to.blocks.width ≤ from.blocks.width
  pub instructions : to.instructions.width ≤ from.instructions.width
  pub cases : to.cases.width ≤ from.cases.width
  pub places : to.places.width ≤ from.places.width
  pub identifiers : to.identifiers.width ≤ from.identifiers.width

pub same_columns : (version : Version) → Narrower (layout version) (layout version)
same_columns version = record { head = refl; blocks = omega arith; instructions = omega arith; cases = omega arith; places = omega arith; identifiers = omega arith }

pub old_narrower : Narrower (layout New) (layout Old)
old_narrower = record { head = refl; blocks = omega arith; instructions = omega arith; cases = omega arith; places = omega arith; identifiers = omega arith }

module _ (from to : Layout) (words : List ℕ) (narrower : Narrower from to) (shaped : Shaped from words) (narrow : Narrow words) where
  -- a table that lies within the words
  part : (k stride columns begin : ℕ) → k < 6 → columns ≤ stride → begin + get_or words k 0 * stride ≤ length words
      → Table (get_or (take 6 words) k 0) columns (cut stride columns (get_or words k 0) (drop begin words))
  part k stride columns begin below c p = record {
    many = cut_many stride columns (get_or words k 0) (drop begin words) ∙ sym (get_or-take 6 words k 0 below);
    each = cut_rows stride columns (get_or words k 0) (drop begin words) c (rw (length-drop begin words) (omega arith)) (narrow_drop begin words narrow);
  }

  pub tables_formed : Formed to (tables_in from to words)
  unfolding tables_in end_at identifiers_at places_at cases_at instructions_at
  tables_formed = record {
    head = record { long = length-take-le 6 words shaped.head ∙ sym narrower.head; words = narrow_words (take 6 words) (narrow_take 6 words narrow) };
    blocks = part 1 from.blocks.width to.blocks.width 6 (omega arith) narrower.blocks (omega (arith, shaped.long));
    instructions = part 2 from.instructions.width to.instructions.width (instructions_at from words) (omega arith) narrower.instructions (omega (arith, shaped.long));
    cases = part 3 from.cases.width to.cases.width (cases_at from words) (omega arith) narrower.cases (omega (arith, shaped.long));
    places = part 4 from.places.width to.places.width (places_at from words) (omega arith) narrower.places (omega (arith, shaped.long));
    identifiers = part 5 from.identifiers.width to.identifiers.width (identifiers_at from words) (omega arith) narrower.identifiers (omega (arith, shaped.long));
  }

-- the text of words that are as many as their head says is a good file, and has these words
pub text_good : (version : Version) (words : List ℕ) → Shaped (layout version) words → Narrow words → Good (layout version) (text_in (layout version) (layout version) words) words
unfolding text_in
text_good version words shaped narrow = record {
  tables = tables_in (layout version) (layout version) words;
  formed = tables_formed (layout version) (layout version) words (same_columns version) shaped narrow;
  text = refl;
  word = sym (words_cut (layout version) words shaped);
}

-- ---- a good file is the text of its words

length_flat : (width : ℕ) (rows : List (List ℕ)) → Rows width rows → length (flat rows) ≡ length rows * width
unfolding flat
length_flat width [] h = omega arith
length_flat width (row ∷ rows) h = simp length-append (omega (arith, h.0.long, length_flat width rows h.1))

-- what stands behind the first part of the words from `n` on
pub behind : (words p q : List ℕ) (n m : ℕ) → drop n words ≡ p ++ q → length p ≡ m → drop (n + m) words ≡ q
behind words p q n m e l = sym (drop-drop m n words) ∙ rw e (drop_at p q m l)

module _ (f : Layout) (t : Tables) (six : f.head.width ≡ 6) (formed : Formed f t) where
  abbrev all : List ℕ
  all = words_of t

  tail : List ℕ
  tail = flat t.blocks ++ (flat t.instructions ++ (flat t.cases ++ (flat t.places ++ (flat t.identifiers ++ []))))

  regrouped : all ≡ t.head ++ tail
  unfolding tail
  regrouped = simp (append_assoc, append-nil)

  six_long : length t.head ≡ 6
  six_long = formed.head.long ∙ six

  counted : (k : ℕ) → k < 6 → get_or all k 0 ≡ get_or t.head k 0
  counted k p = rw regrouped (get_or-append t.head tail 0 k (omega (arith, six_long)))

  -- so many rows
  many : (k : ℕ) {width : ℕ} {rows : List (List ℕ)} → k < 6 → Table (get_or t.head k 0) width rows → get_or all k 0 ≡ length rows
  many k p h = counted k p ∙ sym h.many

  long : (k width : ℕ) (rows : List (List ℕ)) → k < 6 → Table (get_or t.head k 0) width rows → length (flat rows) ≡ get_or all k 0 * width
  long k width rows p h = length_flat width rows h.each ∙ ap (λ (n : ℕ). n * width) (sym (many k p h))

  from_blocks : drop 6 all ≡ tail
  from_blocks = rw regrouped (drop_at t.head tail 6 six_long)

  from_instructions : drop (instructions_at f all) all ≡ flat t.instructions ++ (flat t.cases ++ (flat t.places ++ (flat t.identifiers ++ [])))
  unfolding instructions_at tail
  from_instructions = behind all (flat t.blocks) _ 6 _ from_blocks (long 1 f.blocks.width t.blocks (omega arith) formed.blocks)

  pub from_cases : drop (cases_at f all) all ≡ flat t.cases ++ (flat t.places ++ (flat t.identifiers ++ []))
  unfolding cases_at
  from_cases = behind all (flat t.instructions) _ (instructions_at f all) _ from_instructions (long 2 f.instructions.width t.instructions (omega arith) formed.instructions)

  from_places : drop (places_at f all) all ≡ flat t.places ++ (flat t.identifiers ++ [])
  unfolding places_at
  from_places = behind all (flat t.cases) _ (cases_at f all) _ from_cases (long 3 f.cases.width t.cases (omega arith) formed.cases)

  from_identifiers : drop (identifiers_at f all) all ≡ flat t.identifiers ++ []
  unfolding identifiers_at
  from_identifiers = behind all (flat t.places) _ (places_at f all) _ from_places (long 4 f.places.width t.places (omega arith) formed.places)

  pub tables_cut : tables_in f f all ≡ t
  unfolding tables_in tail
  tables_cut =
      let h : take 6 all ≡ t.head = rw regrouped (take_at t.head tail 6 six_long) in
      let b : cut f.blocks.width f.blocks.width (get_or all 1 0) (drop 6 all) ≡ t.blocks =
      rw (many 1 (omega arith) formed.blocks, from_blocks) (cut_flat f.blocks.width t.blocks _ formed.blocks.each) in
      let i : cut f.instructions.width f.instructions.width (get_or all 2 0) (drop (instructions_at f all) all) ≡ t.instructions =
      rw (from_instructions, many 2 (omega arith) formed.instructions) (cut_flat f.instructions.width t.instructions _ formed.instructions.each) in
      let c : cut f.cases.width f.cases.width (get_or all 3 0) (drop (cases_at f all) all) ≡ t.cases =
      rw (from_cases, many 3 (omega arith) formed.cases) (cut_flat f.cases.width t.cases _ formed.cases.each) in
      let p : cut f.places.width f.places.width (get_or all 4 0) (drop (places_at f all) all) ≡ t.places =
      rw (from_places, many 4 (omega arith) formed.places) (cut_flat f.places.width t.places _ formed.places.each) in
      let d : cut f.identifiers.width f.identifiers.width (get_or all 5 0) (drop (identifiers_at f all) all) ≡ t.identifiers =
      rw (from_identifiers, many 5 (omega arith) formed.identifiers) (cut_flat f.identifiers.width t.identifiers _ formed.identifiers.each) in
      rw (h, b, i, c, p, d)

  pub tables_shaped : Shaped f all
  unfolding end_at identifiers_at places_at cases_at instructions_at
  tables_shaped =
      let b = long 1 f.blocks.width t.blocks (omega arith) formed.blocks in
      let i = long 2 f.instructions.width t.instructions (omega arith) formed.instructions in
      let c = long 3 f.cases.width t.cases (omega arith) formed.cases in
      let p = long 4 f.places.width t.places (omega arith) formed.places in
      let d = long 5 f.identifiers.width t.identifiers (omega arith) formed.identifiers in
      record { head = rw regrouped (simp length-append (omega (arith, six_long))); long = simp length-append (omega (arith, six_long, b, i, c, p, d)) }

-- words of a good file are as many as their head says, and the file is their text: there is one text for words
pub good_shaped : (version : Version) (file words : List ℕ) → Good (layout version) file words → Shaped (layout version) words
good_shaped version file words g = rw g.word (tables_shaped (layout version) g.tables refl g.formed)

pub good_is_text : (version : Version) (file words : List ℕ) → Good (layout version) file words → file ≡ text_in (layout version) (layout version) words
unfolding text_in
good_is_text version file words g =
    g.text ∙ ap (text_of (layout version)) (sym (tables_cut (layout version) g.tables refl g.formed) ∙ ap (tables_in (layout version) (layout version))
    (sym g.word))

-- ---- the words of a good file have 32 bits

words_append : (a b : List ℕ) → Words a → Words b → Words (a ++ b)
words_append [] b p q = q
words_append (n ∷ a) b p q = (p.0, words_append a b p.1 q)

words_flat : (width : ℕ) (rows : List (List ℕ)) → Rows width rows → Words (flat rows)
unfolding flat
words_flat width [] h = tt
words_flat width (row ∷ rows) h = words_append row (flat rows) h.0.words (words_flat width rows h.1)

pub words_narrow : (words : List ℕ) → Words words → Narrow words
words_narrow [] p i = omega arith
words_narrow (n ∷ words) p zero = p.0
words_narrow (n ∷ words) p (suc i) = words_narrow words p.1 i

pub narrow_append : (a b : List ℕ) → Narrow a → Narrow b → Narrow (a ++ b)
narrow_append a b p q = words_narrow (a ++ b) (words_append a b (narrow_words a p) (narrow_words b q))

pub good_narrow : (f : Layout) (file words : List ℕ) → Good f file words → Narrow words
good_narrow f file words g =
    let t = g.tables in
    let h = g.formed in
    let b = words_append t.head (flat t.blocks) h.head.words (words_flat f.blocks.width t.blocks h.blocks.each) in
    let i = words_append (t.head ++ flat t.blocks) (flat t.instructions) b (words_flat f.instructions.width t.instructions h.instructions.each) in
    let c = words_append (t.head ++ flat t.blocks ++ flat t.instructions) (flat t.cases) i (words_flat f.cases.width t.cases h.cases.each) in
    let p = words_append (t.head ++ flat t.blocks ++ flat t.instructions ++ flat t.cases) (flat t.places) c (words_flat f.places.width t.places h.places.each) in
    let d = words_append (t.head ++ flat t.blocks ++ flat t.instructions ++ flat t.cases ++ flat t.places) (flat t.identifiers) p
    (words_flat f.identifiers.width t.identifiers h.identifiers.each) in
    rw g.word (words_narrow (words_of t) d)
