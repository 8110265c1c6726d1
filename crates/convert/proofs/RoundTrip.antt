-- "Given room, old to new to old gives again any old text that is not refused where the new one is at most 32,768 bytes, and new to old to new gives
-- the new text where it was possible."
use Prim.Native.Nat.{ℕ, zero, suc, ◌+◌, ◌-◌, ◌*◌, ◌^◌, ◌≤◌, ◌<◌}
use mathlib.Core.Path.{◌≡◌, refl, sym, ap, ◌∙◌}
use mathlib.Core.Bool.{Bool, true, false}
use mathlib.Core.List.{List, [], ◌∷◌, ◌++◌, map, append_assoc, append-nil}
use native.Mathlib.Omega.{arith}
use lib.Dec.{eqb}
use lib.ListN.{length, get_or, take, drop, length-drop}
use lib.Seq.{take_at, take-suc, drop-drop, get_or-take, get_or-drop, length-take-le}
use borrow.Author.Tests.{eqb-true}
use Rattle.table.specs.Words.{word, block_count, instruction_count, blocks_begin, instructions_begin}
use Rattle.table.specs.Check.{Verdict, accepted, refused, and_then, checked}
use Rattle.table.specs.Promise.{Sized}
use Rattle.table.proofs.PromiseLaws.{promised}
use Rattle.table.proofs.RowLaws.{both}
use Rattle.text.specs.Layout.{layout}
use Rattle.text.specs.Line.{cut, flat}
use Rattle.text.specs.File.{Tables, Good, words_of, text_of}
use Rattle.text.specs.Answer.{Accepted}
use Rattle.text.specs.declared.version.Version.TheVariants.{Old, New}
use Rattle.text.proofs.ReadingLaws.{accepted_reads}
use Rattle.text.proofs.PlacedLaws.{placed_fits}
use Rattle.text.proofs.WriteLaws.{Narrow, narrow_take, narrow_drop}
use Rattle.convert.specs.Cut.{instructions_at, cases_at, places_at, identifiers_at, end_at, Shaped, tables_in, text_in}
use Rattle.convert.specs.Write.{table_text, unless_refused}
use Rattle.convert.proofs.TextLaws.{sized_shaped}
use Rattle.convert.proofs.GoodLaws.{old_narrower, tables_formed, text_good, tables_cut, words_cut, good_shaped, good_is_text, good_narrow, narrow_append, from_cases}
use Rattle.convert.specs.OldCheck.{old_checked}
use Rattle.convert.specs.Widen.{doubled, doubled_rows, widened}
use Rattle.convert.specs.Convert.{wholly, text_of_answer}
use Rattle.convert.specs.Convert.{ends_agree, spans_verdict, new_of_old, old_text, old_of_new, of_reading, old_to_new, new_to_old}
use Rattle.convert.specs.Parts.{old_place, moved}
use Rattle.convert.proofs.SpanLaws.{ends_more}
use Rattle.convert.proofs.LengthLaws.{old_shorter}
use Rattle.convert.proofs.WidenLaws.{doubled_open, doubled_none, cut_doubled, blocks_fit, instructions_fit, wide_six, wide_head, wide_blocks}
use Rattle.convert.proofs.WidenLaws.{wide_shaped, at_instructions, at_cases, at_places, at_identifiers}
use Rattle.convert.proofs.OldCheckLaws.{block_same, block_last, instruction_same, instruction_last, begin, blocks_same, instructions_same, checked_moved}

-- ---- both ends agree

-- rows whose ends agree
all_agree : (words : List ℕ) (width at count : ℕ)
    → ((i : ℕ) → i < count → get_or words (at + i * width + (width - 2)) 0 ≡ get_or words (at + i * width + (width - 1)) 0)
    → ends_agree words width at count ≡ accepted
unfolding ends_agree
all_agree words width at zero h = refl
all_agree words width at (suc count) h =
    let z : at + 0 * width ≡ at = omega arith in
    let one : suc count - 1 ≡ count = omega arith in
    ends_more words width at (suc count) (omega arith) (rw z at (h 0 (omega arith)))
    ∙ rw one (all_agree words width (at + width) count λ i p. (let e : at + width + i * width ≡ at + suc i * width = omega arith in rw e (h (suc i) (omega arith))))

-- where they agree, the first end of each row, twice, is both
agree_first : (words : List ℕ) (width at count : ℕ) → ends_agree words width at (suc count) ≡ accepted
    → (get_or words (at + (width - 2)) 0 ≡ get_or words (at + (width - 1)) 0) × (ends_agree words width (at + width) count ≡ accepted)
unfolding ends_agree word
agree_first words width at count h = by (eqb (get_or words (at + (width - 2)) 0) (get_or words (at + (width - 1)) 0)) refl h
  where
    by : (b : Bool) → eqb (get_or words (at + (width - 2)) 0) (get_or words (at + (width - 1)) 0) ≡ b
        → elim b [ true ↦ ends_agree words width (at + width) count | false ↦ refused 52 (at + (width - 1)) ] ≡ accepted
        → (get_or words (at + (width - 2)) 0 ≡ get_or words (at + (width - 1)) 0) × (ends_agree words width (at + width) count ≡ accepted)
    by true e h = (eqb-true _ _ e, h)
    by false e h = absurd (let z : ◌≡◌ {A = ℕ} 0 1 = cc in omega arith)

agree_doubled : (words : List ℕ) (width at count : ℕ) → 1 ≤ width → at + count * suc width ≤ length words → ends_agree words (suc width) at count ≡ accepted
    → flat (map doubled (cut (suc width) width count (drop at words))) ≡ flat (cut (suc width) (suc width) count (drop at words))
unfolding cut flat doubled
agree_doubled words width at zero p q h = refl
agree_doubled words width at (suc count) p q h =
    let e : suc count * suc width ≡ suc width + count * suc width = omega arith in
    let a : suc width - 2 ≡ width - 1 = omega arith in
    let b : suc width - 1 ≡ width = omega arith in
    let same : get_or words (at + (width - 1)) 0 ≡ get_or words (at + width) 0 = rw (a, b) at (agree_first words (suc width) at count h).0 in
    let l : length (take width (drop at words)) ≡ width = length-take-le width (drop at words) (rw (length-drop at words) (omega arith)) in
    let last : get_or (take width (drop at words)) (width - 1) 0 ≡ get_or (drop at words) width 0 =
    get_or-take width (drop at words) (width - 1) 0 (omega arith) ∙ get_or-drop at words (width - 1) 0 ∙ same ∙ sym (get_or-drop at words width 0) in
    let row : take width (drop at words) ++ (get_or (take width (drop at words)) (length (take width (drop at words)) - 1) 0 ∷ []) ≡ take (suc width) (drop at words) =
    rw (l, last) (sym (take-suc (drop at words) width 0 (rw (length-drop at words) (omega arith)))) in
    let more = agree_doubled words width (at + suc width) count p (omega arith) (agree_first words (suc width) at count h).1 in
    rw (row, drop-drop (suc width) at words, more)

-- ---- widened words

module _ (old : List ℕ) (shaped : Shaped (layout Old) old) where
  block_ends : (b : ℕ) → b < block_count old → get_or (widened old) (6 + b * 11 + 9) 0 ≡ get_or (widened old) (6 + b * 11 + 10) 0
  unfolding word
  block_ends b p = block_same old shaped b p 9 (omega arith) ∙ sym (block_last old shaped b p)

  instruction_ends : (i : ℕ) → i < instruction_count old → get_or (widened old) (6 + block_count old * 11 + i * 7 + 5) 0 ≡ get_or (widened old) (6 + block_count old * 11 + i * 7 + 6) 0
  unfolding word
  instruction_ends i p = instruction_same old shaped i p 5 (omega arith) ∙ sym (instruction_last old shaped i p)

module _ (old : List ℕ) (shaped : Shaped (layout Old) old) where
  -- the ends of what was widened agree
  pub wide_agrees : spans_verdict (widened old) ≡ accepted
  unfolding spans_verdict blocks_begin and_then
  wide_agrees =
      rw (blocks_same old shaped, instructions_same old shaped, begin old shaped, blocks, instructions)
    where
      blocks : ends_agree (widened old) 11 6 (block_count old) ≡ accepted
      blocks = all_agree (widened old) 11 6 (block_count old) (λ b p. block_ends old shaped b p)

      instructions : ends_agree (widened old) 7 (6 + block_count old * 11) (instruction_count old) ≡ accepted
      instructions = all_agree (widened old) 7 (6 + block_count old * 11) (instruction_count old) (λ i p. instruction_ends old shaped i p)

module _ (old : List ℕ) (shaped : Shaped (layout Old) old) where
  abbrev wide : List ℕ
  wide = widened old

  wide_tables : tables_in (layout New) (layout Old) wide ≡ tables_in (layout Old) (layout Old) old
  unfolding tables_in
  wide_tables =
      let h : take 6 wide ≡ take 6 old = wide_six old shaped in
      let b : cut 11 10 (get_or wide 1 0) (drop 6 wide) ≡ cut 10 10 (get_or old 1 0) (drop 6 old) =
      rw (wide_head old shaped 1 (omega arith), wide_blocks old shaped) (cut_doubled 10 (omega arith) (get_or old 1 0) (drop 6 old) _ (blocks_fit old shaped)) in
      let i : cut 7 6 (get_or wide 2 0) (drop (instructions_at (layout New) wide) wide) ≡ cut 6 6 (get_or old 2 0) (drop (instructions_at (layout Old) old) old) =
      rw (at_instructions old shaped, wide_head old shaped 2 (omega arith))
      (cut_doubled 6 (omega arith) (get_or old 2 0) (drop (instructions_at (layout Old) old) old) _ (instructions_fit old shaped)) in
      let c : cut 2 2 (get_or wide 3 0) (drop (cases_at (layout New) wide) wide) ≡ cut 2 2 (get_or old 3 0) (drop (cases_at (layout Old) old) old) = rw
      (at_cases old shaped, wide_head old shaped 3 (omega arith)) in
      let p : cut 1 1 (get_or wide 4 0) (drop (places_at (layout New) wide) wide) ≡ cut 1 1 (get_or old 4 0) (drop (places_at (layout Old) old) old) = rw
      (at_places old shaped, wide_head old shaped 4 (omega arith)) in
      let d : cut 1 1 (get_or wide 5 0) (drop (identifiers_at (layout New) wide) wide) ≡ cut 1 1 (get_or old 5 0) (drop (identifiers_at (layout Old) old) old) = rw
      (at_identifiers old shaped, wide_head old shaped 5 (omega arith)) in
      rw (h, b, i, c, p, d)

  -- the old text of widened words is that of the old ones
  pub wide_text : old_text wide ≡ text_in (layout Old) (layout Old) old
  unfolding old_text text_in
  wide_text = ap (text_of (layout Old)) wide_tables

-- 32 bits
narrow_one : (n : ℕ) → n < 2 ^ 32 → Narrow (n ∷ [])
narrow_one n p zero = p
narrow_one n p (suc i) = omega arith

narrow_doubled : (row : List ℕ) → Narrow row → Narrow (doubled row)
unfolding doubled
narrow_doubled row p = narrow_append row (get_or row (length row - 1) 0 ∷ []) p (narrow_one (get_or row (length row - 1) 0) (p (length row - 1)))

narrow_rows : (width count : ℕ) (words : List ℕ) → Narrow words → Narrow (doubled_rows width count words)
narrow_rows width zero words p = rw (doubled_none width 0 words (omega arith)) (λ i. omega arith)
narrow_rows width (suc count) words p =
    rw (doubled_open width count words)
    (narrow_append (doubled (take width words)) (doubled_rows width count (drop width words)) (narrow_doubled (take width words) (narrow_take width words p))
    (narrow_rows width count (drop width words) (narrow_drop width words p)))

wide_narrow : (old : List ℕ) → Narrow old → Narrow (widened old)
unfolding widened
wide_narrow old p =
    narrow_append (take 6 old) _ (narrow_take 6 old p)
    (narrow_append (doubled_rows 10 (get_or old 1 0) (drop 6 old)) _ (narrow_rows 10 (get_or old 1 0) (drop 6 old) (narrow_drop 6 old p))
    (narrow_append (doubled_rows 6 (get_or old 2 0) (drop (instructions_at (layout Old) old) old)) _
    (narrow_rows 6 (get_or old 2 0) _ (narrow_drop (instructions_at (layout Old) old) old p)) (narrow_drop (cases_at (layout Old) old) old p)))

-- ---- new words whose ends agree

assembled : (a a' d d' : List ℕ) (b b' c c' : List (List ℕ)) → a ≡ a' → b ≡ b' → c ≡ c' → d ≡ d'
    → a ++ (flat (map doubled b) ++ (flat (map doubled c) ++ d)) ≡ a' ++ (flat (map doubled b') ++ (flat (map doubled c') ++ d'))
assembled a a' d d' b b' c c' e f g h = rw (e, f, g, h)

regroup : (a b c d e f : List ℕ) → a ++ (b ++ (c ++ (d ++ (e ++ (f ++ []))))) ≡ a ++ b ++ c ++ d ++ e ++ f
regroup a b c d e f = simp (append_assoc, append-nil)

module _ (words : List ℕ) (sized : Sized words) (narrow : Narrow words) (agree : spans_verdict words ≡ accepted) where
  abbrev tables : Tables
  tables = tables_in (layout New) (layout Old) words

  -- the words of their old text
  abbrev pub narrowed : List ℕ
  narrowed = words_of tables

  shaped : Shaped (layout New) words
  shaped = sized_shaped words sized

  pub narrowed_good : Good (layout Old) (old_text words) narrowed
  unfolding old_text text_in
  narrowed_good = record { tables = tables; formed = tables_formed (layout New) (layout Old) words old_narrower shaped narrow; text = refl; word = refl }

  again : tables_in (layout Old) (layout Old) narrowed ≡ tables
  again = tables_cut (layout Old) tables refl (tables_formed (layout New) (layout Old) words old_narrower shaped narrow)

  agrees : (ends_agree words 11 6 (get_or words 1 0) ≡ accepted) × (ends_agree words 7 (instructions_at (layout New) words) (get_or words 2 0) ≡ accepted)
  unfolding spans_verdict blocks_begin instructions_begin block_count instruction_count word instructions_at
  agrees = both _ _ agree

  blocks_whole : flat (map doubled (cut 11 10 (get_or words 1 0) (drop 6 words))) ≡ flat (cut 11 11 (get_or words 1 0) (drop 6 words))
  unfolding end_at identifiers_at places_at cases_at instructions_at
  blocks_whole = agree_doubled words 10 6 (get_or words 1 0) (omega arith) (omega (arith, shaped.long)) agrees.0

  instructions_whole : flat (map doubled (cut 7 6 (get_or words 2 0) (drop (instructions_at (layout New) words) words)))
      ≡ flat (cut 7 7 (get_or words 2 0) (drop (instructions_at (layout New) words) words))
  unfolding end_at identifiers_at places_at cases_at
  instructions_whole = agree_doubled words 6 (instructions_at (layout New) words) (get_or words 2 0) (omega arith) (omega (arith, shaped.long)) agrees.1

  again_head : take 6 narrowed ≡ take 6 words
  unfolding tables_in
  again_head = ap (λ (t : Tables). t.head) again

  again_blocks : cut 10 10 (get_or narrowed 1 0) (drop 6 narrowed) ≡ cut 11 10 (get_or words 1 0) (drop 6 words)
  unfolding tables_in
  again_blocks = ap (λ (t : Tables). t.blocks) again

  again_instructions : cut 6 6 (get_or narrowed 2 0) (drop (instructions_at (layout Old) narrowed) narrowed) ≡ cut 7 6 (get_or words 2 0) (drop (instructions_at (layout New) words) words)
  unfolding tables_in
  again_instructions = ap (λ (t : Tables). t.instructions) again

  again_rest : drop (cases_at (layout Old) narrowed) narrowed ≡ flat tables.cases ++ (flat tables.places ++ (flat tables.identifiers ++ []))
  again_rest = from_cases (layout Old) tables refl (tables_formed (layout New) (layout Old) words old_narrower shaped narrow)

  -- both ends of each row, as they were
  whole_again : take 6 words
      ++ (flat (map doubled (cut 11 10 (get_or words 1 0) (drop 6 words)))
      ++ (flat (map doubled (cut 7 6 (get_or words 2 0) (drop (instructions_at (layout New) words) words)))
      ++ (flat tables.cases ++ (flat tables.places ++ (flat tables.identifiers ++ [])))))
      ≡ words_of (tables_in (layout New) (layout New) words)
  unfolding tables_in
  whole_again = rw (blocks_whole, instructions_whole) (regroup (take 6 words) _ _ _ _ _)

  -- widened, they are the words again
  pub widened_again : widened narrowed ≡ words
  unfolding widened doubled_rows
  widened_again = assembled _ _ _ _ _ _ _ _ again_head again_blocks again_instructions again_rest ∙ whole_again ∙ words_cut (layout New) words shaped

-- ---- the round trips

-- a refused verdict stays refused
moved_back : (back : ℕ → ℕ) (v : Verdict) → moved back v ≡ accepted → v ≡ accepted
unfolding moved
moved_back back accepted e = refl
moved_back back (refused code at) e = absurd (let z : ◌≡◌ {A = ℕ} 0 1 = cc in omega arith)

accepted_moved : (back : ℕ → ℕ) → moved back accepted ≡ accepted
unfolding moved
accepted_moved back = refl

wholly_text : (lent : ℕ) (text : List ℕ) → text_of_answer (wholly lent text) ≡ text
wholly_text lent text = take_at text _ (length text) refl

-- old words that are not refused, with room for their text
new_given : (words : List ℕ) (lent : ℕ) → old_checked words ≡ accepted → length (table_text (widened words)) ≤ lent → new_of_old words lent ≡ wholly lent (table_text (widened words))
unfolding new_of_old unless_refused
new_given words lent e p = rw e (placed_fits 53 lent (table_text (widened words)) p)

old_given : (words : List ℕ) (lent : ℕ) → checked words ≡ accepted → spans_verdict words ≡ accepted
    → length (old_text words) ≤ lent → old_of_new words lent ≡ wholly lent (old_text words)
unfolding old_of_new unless_refused and_then
old_given words lent e f p = rw (e, f) (placed_fits 53 lent (old_text words) p)

-- an accepted file's answer is that of its words
new_of : (file words : List ℕ) (lent : ℕ) → Accepted (layout Old) file words → old_to_new file lent ≡ new_of_old words lent
unfolding old_to_new of_reading
new_of file words lent a = rw (accepted_reads (layout Old) file words a, of_reading)

old_of : (file words : List ℕ) (lent : ℕ) → Accepted (layout New) file words → new_to_old file lent ≡ old_of_new words lent
unfolding new_to_old of_reading
old_of file words lent a = rw (accepted_reads (layout New) file words a, of_reading)

pub new_wholly : (file words : List ℕ) (lent : ℕ) → Accepted (layout Old) file words → old_checked words ≡ accepted → length (table_text (widened words)) ≤ lent
    → old_to_new file lent ≡ wholly lent (table_text (widened words))
new_wholly file words lent a e room = new_of file words lent a ∙ new_given words lent e room

pub old_wholly : (file words : List ℕ) (lent : ℕ) → Accepted (layout New) file words → checked words ≡ accepted → spans_verdict words ≡ accepted → length (old_text words) ≤ lent
    → new_to_old file lent ≡ wholly lent (old_text words)
old_wholly file words lent a e f room = old_of file words lent a ∙ old_given words lent e f room

-- the words of an old file, widened: not refused, and their old text is the file
module _ (file words : List ℕ) (a : Accepted (layout Old) file words) where
  old_shaped : Shaped (layout Old) words
  old_shaped = good_shaped Old file words a.good

  wide_accepted : old_checked words ≡ accepted → checked (widened words) ≡ accepted
  wide_accepted e = moved_back _ (checked (widened words)) (sym (checked_moved words old_shaped) ∙ e)

  wide_good : Good (layout New) (table_text (widened words)) (widened words)
  wide_good = text_good New (widened words) (wide_shaped words old_shaped) (wide_narrow words (good_narrow (layout Old) file words a.good))

  wide_file : old_text (widened words) ≡ file
  wide_file = wide_text words old_shaped ∙ sym (good_is_text Old file words a.good)

  -- old to new to old: `lent` is enough for the new text, `lent'` for the old one
  pub old_new_old : (lent lent' : ℕ) → old_checked words ≡ accepted → length (table_text (widened words)) ≤ 32768
      → length (table_text (widened words)) ≤ lent → length file ≤ lent'
      → (old_to_new file lent ≡ wholly lent (table_text (widened words))) × (new_to_old (text_of_answer (old_to_new file lent)) lent' ≡ wholly lent' file)
  old_new_old lent lent' e short room room' =
      let first : old_to_new file lent ≡ wholly lent (table_text (widened words)) = new_wholly file words lent a e room in
      let text : text_of_answer (old_to_new file lent) ≡ table_text (widened words) = rw first (wholly_text lent (table_text (widened words))) in
      let good : Accepted (layout New) (table_text (widened words)) (widened words) = record { short = short; good = wide_good } in
      let fits : length (old_text (widened words)) ≤ lent' = rw wide_file room' in
      let back = old_wholly (table_text (widened words)) (widened words) lent' good (wide_accepted e) (wide_agrees words old_shaped) fits in
      (first, rw text (back ∙ ap (wholly lent') wide_file))

-- the words of a new file whose ends agree, narrowed: not refused, and their new text is the file
module _ (file words : List ℕ) (a : Accepted (layout New) file words) (e : checked words ≡ accepted) (f : spans_verdict words ≡ accepted) where
  fitting : Sized words
  fitting = (promised words e).sized

  bits : Narrow words
  bits = good_narrow (layout New) file words a.good

  abbrev old_words : List ℕ
  old_words = narrowed words fitting bits f

  wide_is : widened old_words ≡ words
  wide_is = widened_again words fitting bits f

  narrowed_accepted : old_checked old_words ≡ accepted
  narrowed_accepted =
      checked_moved old_words (good_shaped Old (old_text words) old_words (narrowed_good words fitting bits f))
      ∙ rw (wide_is, e) (accepted_moved (old_place (block_count old_words) (instruction_count old_words)))

  new_file : table_text (widened old_words) ≡ file
  new_file = rw wide_is (sym (good_is_text New file words a.good))

  -- new to old to new: `lent` is enough for the old text, `lent'` for the new one
  pub new_old_new : (lent lent' : ℕ) → length (old_text words) ≤ lent → length file ≤ lent'
      → (new_to_old file lent ≡ wholly lent (old_text words)) × (old_to_new (text_of_answer (new_to_old file lent)) lent' ≡ wholly lent' file)
  new_old_new lent lent' room room' =
      let first : new_to_old file lent ≡ wholly lent (old_text words) = old_wholly file words lent a e f room in
      let text : text_of_answer (new_to_old file lent) ≡ old_text words = rw first (wholly_text lent (old_text words)) in
      let short : length (old_text words) ≤ 32768 = omega (arith, old_shorter words, ap (λ (l : List ℕ). length l) (good_is_text New file words a.good), a.short) in
      let good : Accepted (layout Old) (old_text words) old_words = record { short = short; good = narrowed_good words fitting bits f } in
      let fits : length (table_text (widened old_words)) ≤ lent' = rw new_file room' in
      let back = new_wholly (old_text words) old_words lent' good narrowed_accepted fits in
      (first, rw text (back ∙ ap (wholly lent') new_file))
