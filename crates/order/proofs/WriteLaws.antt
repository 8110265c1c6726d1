-- The words of a renumbered table, and what is written of them in the place of the old ones.
use mathlib.Core.Path.{◌≡◌, refl, sym, ap, ◌∙◌, subst}
use Prim.Native.Nat.{ℕ, zero, suc, ◌+◌, ◌-◌, ◌*◌, ◌/◌, ◌<◌, ◌≤◌}
use native.Mathlib.Omega.{arith}
use mathlib.Core.List.{List, ◌++◌}
use mathlib.Core.Bool.{Bool, true, false}
use lib.ListN.{length, get_or, set, take, drop, length-set, length-drop, get_or-append}
use lib.Seq.{get_or-set_same, get_or-set_other, ext_get_or, length-take-le, get_or-take}
use lib.Dec.{ltb}
use borrow.Author.Tests.{ltb-true, ltb-false}
use borrow.Rule.Slice.PartMut.{put_mid, post_of, mid_of, same_len_mid}
use Rattle.std.proofs.lemmas.List.{get_or-append-add, get_or-drop}
use Rattle.std.proofs.lemmas.Slice.{drop-put_mid}
use Rattle.table.specs.Words.{word, entry_word, block_count, instruction_count, case_count, place_count, identifier_count, blocks_begin, instructions_begin, cases_begin}
use Rattle.table.specs.Words.{places_begin, identifiers_begin, words_needed, code_at, block_word, instruction_word, case_word, place_word, identifier_word}
use Rattle.table.specs.Promise.{Promise}
use Rattle.renaming.specs.Renaming.{renamed_if, renamed_block_row, renamed_case_row, RenamedWords}
use Rattle.renaming.proofs.Permutations.{by_equal, get_d_any}
use Rattle.renaming.proofs.WordLaws.{by_rows, renamed_is, instruction_word_lem, case_word_lem, place_word_lem, identifier_word_lem}
use Rattle.order.specs.Write.{number_in, columns_of, renumbered, Numbering, BlockRows, CaseRows}

-- ---- where the tables begin

pub record Sizes (ws : List ℕ) : Type 0 where
  pub head : 6 ≤ length ws
  pub blocks : block_count ws ≤ 1024
  pub rows : instructions_begin ws ≡ 6 + block_count ws * 11
  pub instructions : cases_begin ws ≡ instructions_begin ws + instruction_count ws * 7
  pub cases : places_begin ws ≡ cases_begin ws + case_count ws * 2
  pub end : length ws ≡ places_begin ws + place_count ws + identifier_count ws
  pub short : length ws ≤ 50182

pub sizes : {ws : List ℕ} → Promise ws → Sizes ws
unfolding words_needed identifiers_begin places_begin cases_begin instructions_begin blocks_begin
sizes p =
    record {
      head = p.sized.limited.head;
      blocks = p.sized.limited.blocks;
      rows = refl;
      instructions = refl;
      cases = refl;
      end = p.sized.long;
      short = omega (arith, p.sized.long, p.sized.limited);
    }

-- ---- numbers

number_there : (numbers : List ℕ) (b : ℕ) → b < length numbers → number_in numbers b ≡ get_or numbers b 0
unfolding number_in
number_there numbers b h = get_d_any numbers b b 0 h

-- ---- the words

column_named : (new : ℕ → ℕ) (ws : List ℕ) (b k : ℕ) → k < 11
    → get_or (renamed_block_row new ws b) k 0 ≡ renamed_if (get_or (columns_of (code_at ws b)) k false) new (block_word ws b k)
unfolding renamed_block_row columns_of
column_named new ws b zero h = refl
column_named new ws b (suc zero) h = refl
column_named new ws b (suc (suc zero)) h = refl
column_named new ws b (suc (suc (suc zero))) h = refl
column_named new ws b (suc (suc (suc (suc zero)))) h = refl
column_named new ws b (suc (suc (suc (suc (suc zero))))) h = refl
column_named new ws b (suc (suc (suc (suc (suc (suc zero)))))) h = refl
column_named new ws b (suc (suc (suc (suc (suc (suc (suc zero))))))) h = refl
column_named new ws b (suc (suc (suc (suc (suc (suc (suc (suc zero)))))))) h = refl
column_named new ws b (suc (suc (suc (suc (suc (suc (suc (suc (suc zero))))))))) h = refl
column_named new ws b (suc (suc (suc (suc (suc (suc (suc (suc (suc (suc zero)))))))))) h = refl
column_named new ws b (suc (suc (suc (suc (suc (suc (suc (suc (suc (suc (suc k))))))))))) h = absurd (omega arith)

module _ (ws names rows : List ℕ) (p : Promise ws) where
  abbrev new : ℕ → ℕ
  new = number_in names

  abbrev old : ℕ → ℕ
  old = number_in rows

  abbrev there : List ℕ
  there = renumbered ws names rows

  is_renamed : RenamedWords (number_in names) (number_in rows) ws (renumbered ws names rows)
  unfolding renumbered
  is_renamed = renamed_is new old ws p.sized

  entry_is : new (entry_word ws) ≡ get_or there 0 0
  unfolding word renumbered entry_word
  entry_is = sym is_renamed.entry

  head_same : (k : ℕ) → 1 ≤ k → k < 6 → get_or ws k 0 ≡ get_or there k 0
  unfolding block_count instruction_count case_count place_count identifier_count word
  head_same zero l h = absurd (omega arith)
  head_same (suc zero) l h = sym is_renamed.blocks
  head_same (suc (suc zero)) l h = sym is_renamed.instructions
  head_same (suc (suc (suc zero))) l h = sym is_renamed.cases
  head_same (suc (suc (suc (suc zero)))) l h = sym is_renamed.places
  head_same (suc (suc (suc (suc (suc zero))))) l h = sym is_renamed.identifiers
  head_same (suc (suc (suc (suc (suc (suc k)))))) l h = absurd (omega arith)

  block_is : length rows ≡ block_count ws → (row : ℕ) → row < block_count ws → (k : ℕ) → k < 11
      → get_or (renamed_block_row new ws (get_or rows row 0)) k 0 ≡ get_or there (6 + row * 11 + k) 0
  unfolding block_word blocks_begin word
  block_is long row h k l = rw (← (number_there rows row (omega (arith, long)))) (sym (is_renamed.block row h k l))

  instructions_same : (k : ℕ) → instructions_begin ws ≤ k → k < cases_begin ws → get_or ws k 0 ≡ get_or there k 0
  unfolding instruction_word word
  instructions_same k l h =
      by_rows 7 (λ j. get_or ws j 0 ≡ get_or there j 0) (instructions_begin ws) (instruction_count ws) (omega arith) (λ i h k l. sym (instruction_word_lem new old ws there is_renamed i h k l)) k l
      (omega (arith, (sizes p).instructions))

  -- a case row
  test_is : (i : ℕ) → i < case_count ws → get_or ws (cases_begin ws + i * 2) 0 ≡ get_or there (cases_begin ws + i * 2) 0
  unfolding case_word renamed_case_row word
  test_is i h =
      let z : cases_begin ws + i * 2 ≡ cases_begin ws + i * 2 + 0 = omega arith in
      subst (λ (j : ℕ). get_or ws j 0 ≡ get_or there j 0) (sym z) (sym (case_word_lem new old ws there is_renamed i h 0 (omega arith)))

  case_is : (i : ℕ) → i < case_count ws → new (get_or ws (cases_begin ws + i * 2 + 1) 0) ≡ get_or there (cases_begin ws + i * 2 + 1) 0
  unfolding case_word renamed_case_row word
  case_is i h = sym (case_word_lem new old ws there is_renamed i h 1 (omega arith))

  tail_same : (k : ℕ) → places_begin ws ≤ k → k < length ws → get_or ws k 0 ≡ get_or there k 0
  unfolding place_word identifier_word identifiers_begin word
  tail_same k l h = by (ltb k (places_begin ws + place_count ws)) refl
    where
      by : (y : Bool) → ltb k (places_begin ws + place_count ws) ≡ y → get_or ws k 0 ≡ get_or there k 0
      by true e =
          let z : places_begin ws + (k - places_begin ws) ≡ k = omega arith in
          subst (λ (j : ℕ). get_or ws j 0 ≡ get_or there j 0) z
          (sym (place_word_lem new old ws there is_renamed (k - places_begin ws) (omega (arith, ltb-true k (places_begin ws + place_count ws) e))))
      by false e =
          let z : places_begin ws + place_count ws + (k - (places_begin ws + place_count ws)) ≡ k = omega (arith, ltb-false k (places_begin ws + place_count ws) e) in
          subst (λ (j : ℕ). get_or ws j 0 ≡ get_or there j 0) z
          (sym (identifier_word_lem new old ws there is_renamed (k - (places_begin ws + place_count ws))
          (omega (arith, ltb-false k (places_begin ws + place_count ws) e, (sizes p).end))))

-- ---- a part put in the place of others

module _ (a k : ℕ) (words part : List ℕ) (inside : a ≤ length words) where
  before_part : (i : ℕ) → i < a → get_or (put_mid a k words part) i 0 ≡ get_or words i 0
  before_part i h = get_or-append (take a words) _ 0 i (omega (arith, length-take-le a words inside)) ∙ get_or-take a words i 0 h

  in_part : (j : ℕ) → j < length part → get_or (put_mid a k words part) (a + j) 0 ≡ get_or part j 0
  in_part j h = rw (length-take-le a words inside) at (get_or-append-add (take a words) (part ++ post_of a k words) j 0) ∙ get_or-append part _ 0 j h

  behind_part : length part ≡ k → (i : ℕ) → a + k ≤ i → get_or (put_mid a k words part) i 0 ≡ get_or words i 0
  behind_part long i h =
      let e : i + 0 ≡ i = omega arith in
      rw e at (sym (get_or-drop i (put_mid a k words part) 0 0) ∙ (ap (λ (l : List ℕ). get_or l 0 0) (drop-put_mid a k words part i h inside long) ∙ get_or-drop i words 0 0))

-- ---- what is written

-- one more column of a block's row
module _ (new : ℕ → ℕ) (ws : List ℕ) (b : ℕ) (row : List ℕ) (k : ℕ) (long : length row ≡ 11)
    (I : (j : ℕ) → j < k → get_or row j 0 ≡ get_or (renamed_block_row new ws b) j 0) where
  pub row_put : k < 11 → {word : ℕ} → word ≡ renamed_if (get_or (columns_of (code_at ws b)) k false) new (get_or ws (6 + b * 11 + k) 0)
      → (j : ℕ) → j < k + 1 → get_or (set row k word) j 0 ≡ get_or (renamed_block_row new ws b) j 0
  unfolding block_word blocks_begin word
  row_put h {word} is j l = by_equal j k
      (λ z. rw z (get_or-set_same row k word 0 (omega (arith, long)) ∙ (is ∙ sym (column_named new ws b k h))))
      (λ f. get_or-set_other row k j word 0 f ∙ I j (omega (arith, f)))

  pub row_whole : 11 ≤ k → row ≡ renamed_block_row new ws b
  unfolding renamed_block_row
  row_whole h = ext_get_or 0 row (renamed_block_row new ws b) long (λ j l. I j (omega (arith, long)))

-- one more row
pub rows_next : {ws names rows out : List ℕ} {i : ℕ} → BlockRows ws names rows i out → (k : ℕ) (row : List ℕ) → i < block_count ws → k ≡ 11 → length row ≡ 11
    → row ≡ renamed_block_row (number_in names) ws (get_or rows i 0) → BlockRows ws names rows (i + 1) (put_mid (i * 11) k out row)
rows_next {ws} {names} {rows} {out} {i} b k row h e long is =
    let inside : i * 11 ≤ length out = omega (arith, b.long) in
    let as_long : length row ≡ length (mid_of (i * 11) k out) = long ∙ sym (length-take-le k (drop (i * 11) out) (rw (length-drop (i * 11) out) (omega (arith, b.long, e))) ∙ e) in
    record {
      long = same_len_mid (i * 11) k out row as_long ∙ b.long;
      row = λ j l c m. by_equal j i
          (λ z. rw z (in_part (i * 11) k out row inside c (omega (arith, long)) ∙ ap (λ (r : List ℕ). get_or r c 0) is))
          (λ f. before_part (i * 11) k out row inside (j * 11 + c) (omega (arith, f)) ∙ b.row j (omega (arith, f)) c m);
    }

-- the old words with these parts in their places
module _ (ws names rows : List ℕ) (p : Promise ws) (g : Numbering ws names rows) {k₁ : ℕ} (rows_long : k₁ ≡ block_count ws * 11) {blocks : List ℕ}
    (b : BlockRows ws names rows (block_count ws) blocks) where
  abbrev entered : List ℕ
  entered = set ws 0 (number_in names (entry_word ws))

  abbrev named : List ℕ
  named = put_mid 6 k₁ entered blocks

  inside : 6 ≤ length entered
  inside = rw (length-set ws 0 (number_in names (entry_word ws))) p.sized.limited.head

  named_long : length named ≡ length ws
  named_long =
      let s = sizes p in
      let lent : length (mid_of 6 k₁ entered) ≡ k₁ = length-take-le k₁ (drop 6 entered) (rw (length-drop 6 entered, length-set ws 0 (number_in names (entry_word ws))) (omega (arith, rows_long, s))) in
      same_len_mid 6 k₁ entered blocks (b.long ∙ sym (lent ∙ rows_long)) ∙ length-set ws 0 (number_in names (entry_word ws))

  named_head : (k : ℕ) → k < 6 → get_or named k 0 ≡ get_or (renumbered ws names rows) k 0
  named_head zero h =
      before_part 6 k₁ entered blocks inside 0 h
      ∙ (get_or-set_same ws 0 (number_in names (entry_word ws)) 0 (omega (arith, p.sized.limited.head)) ∙ entry_is ws names rows p)
  named_head (suc k) h =
      before_part 6 k₁ entered blocks inside (suc k) h
      ∙ (get_or-set_other ws 0 (suc k) (number_in names (entry_word ws)) 0 (λ e. omega (arith, e)) ∙ head_same ws names rows p (suc k) (omega arith) h)

  named_block : (j : ℕ) → 6 ≤ j → j < 6 + block_count ws * 11 → get_or named j 0 ≡ get_or (renumbered ws names rows) j 0
  named_block =
      by_rows 11 (λ j. get_or named j 0 ≡ get_or (renumbered ws names rows) j 0) 6 (block_count ws) (omega arith) (λ i h c l.
      let z : 6 + i * 11 + c ≡ 6 + (i * 11 + c) = omega arith in
      rw z (in_part 6 k₁ entered blocks inside (i * 11 + c) (omega (arith, b.long, h, l)) ∙ (b.row i h c l ∙ rw z at (block_is ws names rows p g.rowed i h c l))))

  named_rest : (j : ℕ) → 6 + block_count ws * 11 ≤ j → get_or named j 0 ≡ get_or ws j 0
  named_rest j h =
      behind_part 6 k₁ entered blocks inside (b.long ∙ sym rows_long) j (omega (arith, rows_long))
      ∙ get_or-set_other ws 0 j (number_in names (entry_word ws)) 0 (λ e. omega (arith, e))

  module _ {k₂ : ℕ} (cases_long : k₂ ≡ case_count ws * 2) {cases : List ℕ}
      (c : CaseRows names (take k₂ (drop (cases_begin ws) named)) (length (take k₂ (drop (cases_begin ws) named)) / 2) cases) where
    abbrev whole : List ℕ
    whole = put_mid (cases_begin ws) k₂ named cases

    inside_cases : cases_begin ws ≤ length named
    inside_cases = let s = sizes p in omega (arith, named_long)

    lent_cases : length (take k₂ (drop (cases_begin ws) named)) ≡ case_count ws * 2
    lent_cases = let s = sizes p in length-take-le k₂ (drop (cases_begin ws) named) (rw (length-drop (cases_begin ws) named) (omega (arith, named_long, cases_long))) ∙ cases_long

    lent_word : (j : ℕ) → j < case_count ws * 2 → get_or (take k₂ (drop (cases_begin ws) named)) j 0 ≡ get_or ws (cases_begin ws + j) 0
    lent_word j h =
        let s = sizes p in
        get_or-take k₂ (drop (cases_begin ws) named) j 0 (omega (arith, cases_long)) ∙ (get_or-drop (cases_begin ws) named j 0 ∙ named_rest (cases_begin ws + j) (omega arith))

    case_word_is : (i : ℕ) → i < case_count ws → (k : ℕ) → k < 2 → get_or whole (cases_begin ws + i * 2 + k) 0 ≡ get_or (renumbered ws names rows) (cases_begin ws + i * 2 + k) 0
    case_word_is i h zero l =
        let z : cases_begin ws + i * 2 + 0 ≡ cases_begin ws + i * 2 = omega arith in
        rw z (in_part (cases_begin ws) k₂ named cases inside_cases (i * 2) (omega (arith, c.long, lent_cases))
        ∙ (c.test i ∙ (lent_word (i * 2) (omega arith) ∙ test_is ws names rows p i h)))
    case_word_is i h (suc zero) l =
        let z : cases_begin ws + i * 2 + 1 ≡ cases_begin ws + (i * 2 + 1) = omega arith in
        rw z (in_part (cases_begin ws) k₂ named cases inside_cases (i * 2 + 1) (omega (arith, c.long, lent_cases))
        ∙ (c.block i (omega (arith, lent_cases)) ∙ (ap (number_in names) (lent_word (i * 2 + 1) (omega arith)) ∙ rw z at (case_is ws names rows p i h))))
    case_word_is i h (suc (suc k)) l = absurd (omega arith)

    before_cases : (k : ℕ) → k < cases_begin ws → get_or whole k 0 ≡ get_or named k 0
    before_cases = before_part (cases_begin ws) k₂ named cases inside_cases

    word_is : (k : ℕ) → k < length ws → (head blocks instructions cases : Bool) → ltb k 6 ≡ head → ltb k (instructions_begin ws) ≡ blocks → ltb k (cases_begin ws) ≡ instructions
        → ltb k (places_begin ws) ≡ cases → get_or whole k 0 ≡ get_or (renumbered ws names rows) k 0
    word_is k l true y z w e f g h =
        let s = sizes p in
        let less = ltb-true k 6 e in
        before_cases k (omega (arith, s.rows, s.instructions)) ∙ named_head k less
    word_is k l false true z w e f g h =
        let s = sizes p in
        let less = ltb-true k (instructions_begin ws) f in
        before_cases k (omega (arith, s.instructions)) ∙ named_block k (ltb-false k 6 e) (omega (arith, s.rows))
    word_is k l false false true w e f g h =
        let s = sizes p in
        let less = ltb-true k (cases_begin ws) g in
        let most = ltb-false k (instructions_begin ws) f in
        before_cases k less ∙ (named_rest k (omega (arith, s.rows)) ∙ instructions_same ws names rows p k most less)
    word_is k l false false false true e f g h =
        let s = sizes p in
        by_rows 2 (λ j. get_or whole j 0 ≡ get_or (renumbered ws names rows) j 0) (cases_begin ws) (case_count ws) (omega arith) case_word_is k (ltb-false k (cases_begin ws) g)
        (omega (arith, s.cases, ltb-true k (places_begin ws) h))
    word_is k l false false false false e f g h =
        let s = sizes p in
        let most = ltb-false k (places_begin ws) h in
        behind_part (cases_begin ws) k₂ named cases inside_cases (c.long ∙ (lent_cases ∙ sym cases_long)) k (omega (arith, s.cases, cases_long))
        ∙ (named_rest k (omega (arith, s.rows, s.instructions, s.cases)) ∙ tail_same ws names rows p k most l)

    renumbered_put : whole ≡ renumbered ws names rows
    renumbered_put =
        let long = same_len_mid (cases_begin ws) k₂ named cases c.long ∙ named_long in
        ext_get_or 0 whole (renumbered ws names rows) (long ∙ sym (is_renamed ws names rows p).long)
        (λ k l. word_is k (rw long at l) (ltb k 6) (ltb k (instructions_begin ws)) (ltb k (cases_begin ws)) (ltb k (places_begin ws)) refl refl refl refl)

-- the same of the words as they are copied, entered and cut
pub table_renumbered : {ws names rows copied blocks cases : List ℕ} {entry number first case place : ℕ} → Promise ws → Numbering ws names rows → copied ≡ ws
    → entry ≡ entry_word ws → number ≡ number_in names entry → first ≡ instructions_begin ws → case ≡ cases_begin ws → place ≡ places_begin ws
    → BlockRows ws names rows (block_count ws) blocks
    → CaseRows names (take (place - case) (drop case (put_mid 6 (first - 6) (set copied 0 number) blocks)))
    (length (take (place - case) (drop case (put_mid 6 (first - 6) (set copied 0 number) blocks))) / 2) cases
    → put_mid case (place - case) (put_mid 6 (first - 6) (set copied 0 number) blocks) cases ≡ renumbered ws names rows
table_renumbered {ws} {names} {rows} p g copy entry number first case place b c =
    let s = sizes p in
    let n = rw entry at number in
    rw (copy, n, case) (renumbered_put ws names rows p g (omega (arith, first, s.rows)) b (omega (arith, case, place, s.cases)) (rw (copy, n, case) at c))
