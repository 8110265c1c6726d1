-- The renamed words, word by word: `renamed` keeps `RenamedWords`, and no other words do.
use mathlib.Core.Path.{◌≡◌, refl, sym, ap, ◌∙◌, subst}
use Prim.Native.Nat.{ℕ, zero, suc, ◌+◌, ◌-◌, ◌*◌, ◌/◌, ◌%◌, ◌<◌, ◌≤◌}
use native.Mathlib.Omega.{arith}
use native.Mathlib.Nat.{suc-mul, zero-mul, zero-add, div-add-mod', mod-lt, div-lt_iff_lt-mul}
use mathlib.Core.List.{List, [], ◌∷◌, ◌++◌, append_assoc, append-nil}
use mathlib.Core.Bool.{Bool, true, false}
use lib.ListN.{length, get_or, length-append, get_or-append}
use lib.Seq.{get_or-append-add, ext_get_or}
use lib.Dec.{ltb}
use borrow.Author.Tests.{ltb-true, ltb-false}
use Rattle.table.specs.Words.{word, entry_word, block_count, instruction_count, case_count, place_count, identifier_count, blocks_begin, instructions_begin, cases_begin}
use Rattle.table.specs.Words.{places_begin, identifiers_begin, words_needed, block_word, instruction_word, case_word, place_word, identifier_word}
use Rattle.table.specs.Promise.{Sized}
use Rattle.renaming.specs.Renaming.{names_block, renamed_if, renamed_block_row, instruction_row, renamed_case_row, rows_of, renamed, RenamedWords}

-- ---- rows of one width, one after the other

module _ (w : ℕ) where
  rows_long : (f : ℕ → List ℕ) → ((i : ℕ) → length (f i) ≡ w) → (n : ℕ) → length (rows_of f n) ≡ n * w
  unfolding rows_of
  rows_long f wide zero = sym (zero-mul w)
  rows_long f wide (suc n) =
      length-append (f 0) (rows_of (λ i. f (suc i)) n) ∙ rw suc-mul (omega (arith, wide 0, rows_long (λ i. f (suc i)) (λ i. wide (suc i)) n))

  row_word : (f : ℕ → List ℕ) → ((i : ℕ) → length (f i) ≡ w) → (n : ℕ) (more : List ℕ) (i k : ℕ) → i < n → k < w → get_or (rows_of f n ++ more) (i * w + k) 0 ≡ get_or (f i) k 0
  unfolding rows_of
  row_word f wide zero more i k h l = absurd (omega arith)
  row_word f wide (suc n) more zero k h l =
      rw (append_assoc (f 0) (rows_of (λ i. f (suc i)) n) more, zero-mul, zero-add) (get_or-append (f 0) (rows_of (λ i. f (suc i)) n ++ more) 0 k (omega (arith, wide 0)))
  row_word f wide (suc n) more (suc i) k h l =
      let z : suc i * w + k ≡ length (f 0) + (i * w + k) = rw suc-mul (omega (arith, wide 0)) in
      rw (append_assoc (f 0) (rows_of (λ i. f (suc i)) n) more, z)
      (get_or-append-add (f 0) (rows_of (λ i. f (suc i)) n ++ more) (i * w + k) 0 ∙ row_word (λ i. f (suc i)) (λ i. wide (suc i)) n more i k (omega arith) l)

  after_rows : (f : ℕ → List ℕ) → ((i : ℕ) → length (f i) ≡ w) → (n : ℕ) (more : List ℕ) (k : ℕ) → get_or (rows_of f n ++ more) (n * w + k) 0 ≡ get_or more k 0
  after_rows f wide n more k = rw (← (rows_long f wide n)) (get_or-append-add (rows_of f n) more k 0)

  -- what holds at every column of every row holds at every place
  pub by_rows : (P : ℕ → Type 0) (begin n : ℕ) → 0 < w → ((i : ℕ) → i < n → (k : ℕ) → k < w → P (begin + i * w + k)) → (j : ℕ) → begin ≤ j → j < begin + n * w → P j
  by_rows P begin n pos h j l u =
      let d : ℕ = j - begin in
      let q : d / w * w + d % w ≡ d = div-add-mod' d w in
      let e : begin + d / w * w + d % w ≡ j = omega arith in
      subst P e (h (d / w) ((div-lt_iff_lt-mul {x = d} {y = n} pos).1 (omega arith)) (d % w) (mod-lt d pos))

-- ---- the renamed words

module _ (new old : ℕ → ℕ) (ws : List ℕ) where
  abbrev identifier_rows : List ℕ
  identifier_rows = rows_of (λ i. identifier_word ws i ∷ []) (identifier_count ws)

  abbrev place_rows : List ℕ
  place_rows = rows_of (λ i. place_word ws i ∷ []) (place_count ws) ++ identifier_rows

  abbrev case_rows : List ℕ
  case_rows = rows_of (renamed_case_row new ws) (case_count ws) ++ place_rows

  abbrev instruction_rows : List ℕ
  instruction_rows = rows_of (instruction_row ws) (instruction_count ws) ++ case_rows

  abbrev block_rows : List ℕ
  block_rows = rows_of (λ b. renamed_block_row new ws (old b)) (block_count ws) ++ instruction_rows

  wide_block : (b : ℕ) → length (renamed_block_row new ws b) ≡ 11
  unfolding renamed_block_row
  wide_block b = refl

  wide_instruction : (i : ℕ) → length (instruction_row ws i) ≡ 7
  unfolding instruction_row
  wide_instruction i = refl

  wide_case : (i : ℕ) → length (renamed_case_row new ws i) ≡ 2
  unfolding renamed_case_row
  wide_case i = refl

  past_head : (j : ℕ) → word (renamed new old ws) (6 + j) ≡ get_or block_rows j 0
  unfolding renamed word
  past_head j = let z : 6 + j ≡ suc (suc (suc (suc (suc (suc j))))) = omega arith in rw z

  renamed_long : length (renamed new old ws) ≡ words_needed ws
  unfolding renamed words_needed identifiers_begin places_begin cases_begin instructions_begin blocks_begin
  renamed_long =
      simp (
        length-append,
        rows_long 11 (λ b. renamed_block_row new ws (old b)) (λ b. wide_block (old b)),
        rows_long 7 (instruction_row ws) wide_instruction,
        rows_long 2 (renamed_case_row new ws) wide_case,
        rows_long 1 (λ i. place_word ws i ∷ []) (λ i. refl),
        rows_long 1 (λ i. identifier_word ws i ∷ []) (λ i. refl),
      ) (omega arith)

  -- where each table begins, in the words past the head
  at_block : (b : ℕ) → b < block_count ws → (k : ℕ) → k < 11 → block_word (renamed new old ws) b k ≡ get_or (renamed_block_row new ws (old b)) k 0
  unfolding block_word blocks_begin
  at_block b h k l =
      let z : 6 + b * 11 + k ≡ 6 + (b * 11 + k) = omega arith in
      rw z (past_head (b * 11 + k) ∙ row_word 11 (λ b. renamed_block_row new ws (old b)) (λ b. wide_block (old b)) (block_count ws) instruction_rows b k h l)

  past_blocks : (j : ℕ) → word (renamed new old ws) (instructions_begin ws + j) ≡ get_or instruction_rows j 0
  unfolding instructions_begin blocks_begin
  past_blocks j =
      let z : 6 + block_count ws * 11 + j ≡ 6 + (block_count ws * 11 + j) = omega arith in
      rw z (past_head (block_count ws * 11 + j) ∙ after_rows 11 (λ b. renamed_block_row new ws (old b)) (λ b. wide_block (old b)) (block_count ws) instruction_rows j)

  past_instructions : (j : ℕ) → word (renamed new old ws) (cases_begin ws + j) ≡ get_or case_rows j 0
  unfolding cases_begin
  past_instructions j =
      let z : instructions_begin ws + instruction_count ws * 7 + j ≡ instructions_begin ws + (instruction_count ws * 7 + j) = omega arith in
      rw z (past_blocks (instruction_count ws * 7 + j) ∙ after_rows 7 (instruction_row ws) wide_instruction (instruction_count ws) case_rows j)

  past_cases : (j : ℕ) → word (renamed new old ws) (places_begin ws + j) ≡ get_or place_rows j 0
  unfolding places_begin
  past_cases j =
      let z : cases_begin ws + case_count ws * 2 + j ≡ cases_begin ws + (case_count ws * 2 + j) = omega arith in
      rw z (past_instructions (case_count ws * 2 + j) ∙ after_rows 2 (renamed_case_row new ws) wide_case (case_count ws) place_rows j)

  past_places : (j : ℕ) → word (renamed new old ws) (identifiers_begin ws + j) ≡ get_or identifier_rows j 0
  unfolding identifiers_begin
  past_places j =
      let z : places_begin ws + place_count ws + j ≡ places_begin ws + (place_count ws * 1 + j) = omega arith in
      rw z (past_cases (place_count ws * 1 + j) ∙ after_rows 1 (λ i. place_word ws i ∷ []) (λ i. refl) (place_count ws) identifier_rows j)

  at_instruction : (i : ℕ) → i < instruction_count ws → (k : ℕ) → k < 7 → word (renamed new old ws) (instructions_begin ws + i * 7 + k) ≡ get_or (instruction_row ws i) k 0
  at_instruction i h k l =
      let z : instructions_begin ws + i * 7 + k ≡ instructions_begin ws + (i * 7 + k) = omega arith in
      rw z (past_blocks (i * 7 + k) ∙ row_word 7 (instruction_row ws) wide_instruction (instruction_count ws) case_rows i k h l)

  at_case : (i : ℕ) → i < case_count ws → (k : ℕ) → k < 2 → word (renamed new old ws) (cases_begin ws + i * 2 + k) ≡ get_or (renamed_case_row new ws i) k 0
  at_case i h k l =
      let z : cases_begin ws + i * 2 + k ≡ cases_begin ws + (i * 2 + k) = omega arith in
      rw z (past_instructions (i * 2 + k) ∙ row_word 2 (renamed_case_row new ws) wide_case (case_count ws) place_rows i k h l)

  at_place : (i : ℕ) → i < place_count ws → word (renamed new old ws) (places_begin ws + i) ≡ place_word ws i
  at_place i h =
      let z : places_begin ws + i ≡ places_begin ws + (i * 1 + 0) = omega arith in
      rw z (past_cases (i * 1 + 0) ∙ row_word 1 (λ i. place_word ws i ∷ []) (λ i. refl) (place_count ws) identifier_rows i 0 h (omega arith))

  at_identifier : (i : ℕ) → i < identifier_count ws → word (renamed new old ws) (identifiers_begin ws + i) ≡ identifier_word ws i
  at_identifier i h =
      let z : identifiers_begin ws + i ≡ identifiers_begin ws + (i * 1 + 0) = omega arith in
      rw z (past_places (i * 1 + 0) ∙ (ap (λ (l : List ℕ). get_or l (i * 1 + 0) 0) (sym (append-nil identifier_rows))
      ∙ row_word 1 (λ i. identifier_word ws i ∷ []) (λ i. refl) (identifier_count ws) [] i 0 h (omega arith)))

  -- the counts of the renamed words are the same, and so are the beginnings
  same_begins : (instructions_begin (renamed new old ws) ≡ instructions_begin ws) × (cases_begin (renamed new old ws) ≡ cases_begin ws)
      × (places_begin (renamed new old ws) ≡ places_begin ws) × (identifiers_begin (renamed new old ws) ≡ identifiers_begin ws)
  unfolding renamed block_count instruction_count case_count place_count word instructions_begin cases_begin places_begin identifiers_begin
  same_begins = (refl, refl, refl, refl)

  instruction_column : (i k : ℕ) → k < 7 → get_or (instruction_row ws i) k 0 ≡ instruction_word ws i k
  unfolding instruction_row
  instruction_column i zero h = refl
  instruction_column i (suc zero) h = refl
  instruction_column i (suc (suc zero)) h = refl
  instruction_column i (suc (suc (suc zero))) h = refl
  instruction_column i (suc (suc (suc (suc zero)))) h = refl
  instruction_column i (suc (suc (suc (suc (suc zero))))) h = refl
  instruction_column i (suc (suc (suc (suc (suc (suc zero)))))) h = refl
  instruction_column i (suc (suc (suc (suc (suc (suc (suc k))))))) h = absurd (omega arith)

  pub renamed_is : Sized ws → RenamedWords new old ws (renamed new old ws)
  unfolding renamed entry_word block_count instruction_count case_count place_count identifier_count word instruction_word case_word place_word identifier_word renamed_case_row
  renamed_is s = record {
    long = renamed_long ∙ sym s.long;
    entry = refl;
    blocks = refl;
    instructions = refl;
    cases = refl;
    places = refl;
    identifiers = refl;
    block = at_block;
    instruction = λ i h k l. rw same_begins.0 (at_instruction i h k l ∙ instruction_column i k l);
    case_test = λ i h. rw same_begins.1 (at_case i h 0 (omega arith));
    case_block = λ i h. rw same_begins.1 (at_case i h 1 (omega arith));
    place = λ i h. rw same_begins.2 (at_place i h);
    identifier = λ i h. rw same_begins.3 (at_identifier i h);
  }

-- ---- no other words are so related

module _ (new old : ℕ → ℕ) (ws ws' : List ℕ) (r : RenamedWords new old ws ws') where
  pub begin_instructions : instructions_begin ws' ≡ instructions_begin ws
  unfolding instructions_begin
  begin_instructions = rw r.blocks

  pub begin_cases : cases_begin ws' ≡ cases_begin ws
  unfolding cases_begin
  begin_cases = rw (begin_instructions, r.instructions)

  pub begin_places : places_begin ws' ≡ places_begin ws
  unfolding places_begin
  begin_places = rw (begin_cases, r.cases)

  pub begin_identifiers : identifiers_begin ws' ≡ identifiers_begin ws
  unfolding identifiers_begin
  begin_identifiers = rw (begin_places, r.places)

  pub renamed_needed : words_needed ws' ≡ words_needed ws
  unfolding words_needed
  renamed_needed = rw (begin_identifiers, r.identifiers)

  -- the words of ws', each by a word of ws
  pub instruction_word_lem : (i : ℕ) → i < instruction_count ws → (k : ℕ) → k < 7 → word ws' (instructions_begin ws + i * 7 + k) ≡ instruction_word ws i k
  unfolding instruction_word
  instruction_word_lem i h k l = rw begin_instructions at (r.instruction i h k l)

  pub case_word_lem : (i : ℕ) → i < case_count ws → (k : ℕ) → k < 2 → word ws' (cases_begin ws + i * 2 + k) ≡ get_or (renamed_case_row new ws i) k 0
  unfolding case_word renamed_case_row
  case_word_lem i h zero l = rw begin_cases at (r.case_test i h)
  case_word_lem i h (suc zero) l = rw begin_cases at (r.case_block i h)
  case_word_lem i h (suc (suc k)) l = absurd (omega arith)

  pub place_word_lem : (i : ℕ) → i < place_count ws → word ws' (places_begin ws + i) ≡ place_word ws i
  unfolding place_word
  place_word_lem i h = rw begin_places at (r.place i h)

  pub identifier_word_lem : (i : ℕ) → i < identifier_count ws → word ws' (identifiers_begin ws + i) ≡ identifier_word ws i
  unfolding identifier_word
  identifier_word_lem i h = rw begin_identifiers at (r.identifier i h)

module _ (new old : ℕ → ℕ) (ws a b : List ℕ) (p : RenamedWords new old ws a) (q : RenamedWords new old ws b) where
  abbrev Same : ℕ → Type 0
  Same j = word a j ≡ word b j

  head_same : (j : ℕ) → j < 6 → Same j
  unfolding entry_word block_count instruction_count case_count place_count identifier_count
  head_same zero h = p.entry ∙ sym q.entry
  head_same (suc zero) h = p.blocks ∙ sym q.blocks
  head_same (suc (suc zero)) h = p.instructions ∙ sym q.instructions
  head_same (suc (suc (suc zero))) h = p.cases ∙ sym q.cases
  head_same (suc (suc (suc (suc zero)))) h = p.places ∙ sym q.places
  head_same (suc (suc (suc (suc (suc zero))))) h = p.identifiers ∙ sym q.identifiers
  head_same (suc (suc (suc (suc (suc (suc j)))))) h = absurd (omega arith)

  blocks_same : (j : ℕ) → 6 ≤ j → j < 6 + block_count ws * 11 → Same j
  unfolding block_word blocks_begin
  blocks_same = by_rows 11 Same 6 (block_count ws) (omega arith) (λ i h k l. p.block i h k l ∙ sym (q.block i h k l))

  instructions_same : (j : ℕ) → instructions_begin ws ≤ j → j < instructions_begin ws + instruction_count ws * 7 → Same j
  instructions_same =
      by_rows 7 Same (instructions_begin ws) (instruction_count ws) (omega arith)
      (λ i h k l. instruction_word_lem new old ws a p i h k l ∙ sym (instruction_word_lem new old ws b q i h k l))

  cases_same : (j : ℕ) → cases_begin ws ≤ j → j < cases_begin ws + case_count ws * 2 → Same j
  cases_same = by_rows 2 Same (cases_begin ws) (case_count ws) (omega arith) (λ i h k l. case_word_lem new old ws a p i h k l ∙ sym (case_word_lem new old ws b q i h k l))

  places_same : (j : ℕ) → places_begin ws ≤ j → j < places_begin ws + place_count ws → Same j
  places_same j h l =
      let z : places_begin ws + (j - places_begin ws) ≡ j = omega arith in
      subst Same z (place_word_lem new old ws a p (j - places_begin ws) (omega arith) ∙ sym (place_word_lem new old ws b q (j - places_begin ws) (omega arith)))

  identifiers_same : (j : ℕ) → identifiers_begin ws ≤ j → j < identifiers_begin ws + identifier_count ws → Same j
  identifiers_same j h l =
      let z : identifiers_begin ws + (j - identifiers_begin ws) ≡ j = omega arith in
      subst Same z (identifier_word_lem new old ws a p (j - identifiers_begin ws) (omega arith) ∙ sym (identifier_word_lem new old ws b q (j - identifiers_begin ws) (omega arith)))

  -- below a bound, or from it on
  split : {A : Type 0} (j n : ℕ) → (j < n → A) → (n ≤ j → A) → A
  split {A} j n f g = by (ltb j n) refl
    where
      by : (y : Bool) → ltb j n ≡ y → A
      by true e = f (ltb-true _ _ e)
      by false e = g (ltb-false _ _ e)

  pub one_renamed : Sized ws → a ≡ b
  unfolding word instructions_begin cases_begin places_begin identifiers_begin words_needed blocks_begin
  one_renamed s = ext_get_or 0 a b (p.long ∙ sym q.long) (λ j h.
      split j 6 (head_same j) (λ l.
      split j (instructions_begin ws) (blocks_same j l) (λ l.
      split j (cases_begin ws) (instructions_same j l) (λ l.
      split j (places_begin ws) (cases_same j l) (λ l.
      split j (identifiers_begin ws) (places_same j l) (λ l.
      identifiers_same j l (omega (arith, p.long, s.long))))))))

-- what the code promises of each word it writes gives the whole list
pub renamed_words : (new old : ℕ → ℕ) (ws ws' : List ℕ) → Sized ws → RenamedWords new old ws ws' → ws' ≡ renamed new old ws
renamed_words new old ws ws' s r = one_renamed new old ws ws' (renamed new old ws) r (renamed_is new old ws s) s

-- ---- and back

module _ (new old : ℕ → ℕ) (ws ws' : List ℕ) (inverse : (b : ℕ) → old (new b) ≡ b) (below : (b : ℕ) → b < block_count ws → new b < block_count ws) (r : RenamedWords new old ws ws') where
  undo_if : (y : Bool) (w : ℕ) → renamed_if y old (renamed_if y new w) ≡ w
  undo_if true w = inverse w
  undo_if false w = refl

  module _ (b : ℕ) (h : b < block_count ws) where
    column : (k : ℕ) → k < 11 → block_word ws' (new b) k ≡ get_or (renamed_block_row new ws b) k 0
    column k l = subst (λ (z : ℕ). block_word ws' (new b) k ≡ get_or (renamed_block_row new ws z) k 0) (inverse b) (r.block (new b) (below b h) k l)

    code_column : block_word ws' (new b) 2 ≡ block_word ws b 2
    unfolding renamed_block_row
    code_column = column 2 (omega arith)

    undone_name : (j w' w : ℕ) → w' ≡ renamed_if (names_block (block_word ws b 2) j) new w → renamed_if (names_block (block_word ws' (new b) 2) j) old w' ≡ w
    undone_name j w' w e = rw (code_column, e) (undo_if (names_block (block_word ws b 2) j) w)

    undone_column : (k : ℕ) → k < 11 → block_word ws b k ≡ get_or (renamed_block_row old ws' (new b)) k 0
    unfolding renamed_block_row
    undone_column zero l = sym (column 0 l)
    undone_column (suc zero) l = sym (column 1 l)
    undone_column (suc (suc zero)) l = sym (column 2 l)
    undone_column (suc (suc (suc zero))) l = sym (undone_name 0 _ _ (column 3 l))
    undone_column (suc (suc (suc (suc zero)))) l = sym (undone_name 1 _ _ (column 4 l))
    undone_column (suc (suc (suc (suc (suc zero))))) l = sym (undone_name 2 _ _ (column 5 l))
    undone_column (suc (suc (suc (suc (suc (suc zero)))))) l = sym (undone_name 3 _ _ (column 6 l))
    undone_column (suc (suc (suc (suc (suc (suc (suc zero))))))) l = sym (undone_name 4 _ _ (column 7 l))
    undone_column (suc (suc (suc (suc (suc (suc (suc (suc zero)))))))) l = sym (column 8 l)
    undone_column (suc (suc (suc (suc (suc (suc (suc (suc (suc zero))))))))) l = sym (column 9 l)
    undone_column (suc (suc (suc (suc (suc (suc (suc (suc (suc (suc zero)))))))))) l = sym (column 10 l)
    undone_column (suc (suc (suc (suc (suc (suc (suc (suc (suc (suc (suc k))))))))))) l = absurd (omega arith)

  pub undone : RenamedWords old new ws' ws
  undone = record {
    long = sym r.long;
    entry = sym (ap old r.entry ∙ inverse (entry_word ws));
    blocks = sym r.blocks;
    instructions = sym r.instructions;
    cases = sym r.cases;
    places = sym r.places;
    identifiers = sym r.identifiers;
    block = λ b h k l. undone_column b (omega (arith, h, r.blocks)) k l;
    instruction = λ i h k l. sym (r.instruction i (omega (arith, h, r.instructions)) k l);
    case_test = λ i h. sym (r.case_test i (omega (arith, h, r.cases)));
    case_block = λ i h. sym (ap old (r.case_block i (omega (arith, h, r.cases))) ∙ inverse (case_word ws i 1));
    place = λ i h. sym (r.place i (omega (arith, h, r.places)));
    identifier = λ i h. sym (r.identifier i (omega (arith, h, r.identifiers)));
  }
