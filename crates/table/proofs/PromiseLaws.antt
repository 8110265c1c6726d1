-- Accepted words keep the promise, and words that keep it are accepted.
use Prim.Native.Nat.{ℕ, zero, suc, ◌+◌, ◌*◌, ◌<◌, ◌≤◌}
use mathlib.Core.Path.{◌≡◌, refl, sym, ◌∙◌}
use mathlib.Core.List.{List, [], ◌∷◌}
use mathlib.Core.Bool.{Bool, true, false, ◌||◌}
use mathlib.Core.Logic.{◌⊎◌, inl, inr}
use native.Mathlib.Omega.{arith}
use native.Mathlib.Nat.{zero-add}
use lib.ListN.{length, get_or}
use lib.Dec.{ltb, eqb}
use borrow.Author.Tests.{ltb-true, leb-true, eqb-true, ltb-false, eqb-false, lt-ltb, le-ltb, le-leb}
use Rattle.table.specs.Words.{word, entry_word, block_count, instruction_count, case_count, place_count, identifier_count, words_needed, blocks_begin}
use Rattle.table.specs.Words.{instructions_begin, cases_begin, places_begin, identifiers_begin, block_word, instruction_word, case_word, place_word}
use Rattle.table.specs.Words.{identifier_word, largest}
use Rattle.table.specs.Check.{Verdict, accepted, refused, Rule, unused, number, row, row_or_none, rows_from, fits, row_verdict, rows_verdict, limits}
use Rattle.table.specs.Check.{counts_verdict, words_verdict, checked, block_rules, instruction_rules, case_rules, place_rules, identifier_rules}
use Rattle.table.specs.Promise.{Limited, Promise}
use Rattle.table.proofs.RowLaws.{row_fits, fits_row, rows_row, row_rows, on, both}
use Rattle.table.proofs.RuleLaws.{block_width, instruction_width, case_width, place_width, identifier_width}
use Rattle.table.proofs.CheckLaws.{limited, counts_all, checked_short, checked_length, checked_entry, checked_words}

-- ---- what a rule gives

pub unused_zero : (w : ℕ) → fits unused w ≡ true → w ≡ 0
unfolding fits
unused_zero w h = eqb-true w 0 h

pub number_most : (most w : ℕ) → fits (number most) w ≡ true → w ≤ most
unfolding fits
number_most most w h = leb-true w most h

pub row_below : (rows w : ℕ) → fits (row rows) w ≡ true → w < rows
unfolding fits
row_below rows w h = ltb-true w rows h

pub rows_within : (first rows w : ℕ) → fits (rows_from first rows) w ≡ true → first + w ≤ rows
unfolding fits
rows_within first rows w h = leb-true (first + w) rows h

pub none_or_below : (rows w : ℕ) → fits (row_or_none rows) w ≡ true → (w ≡ largest) ⊎ (w < rows)
unfolding fits
none_or_below rows w h = go (eqb w largest) refl h
  where
    go : (t : Bool) → eqb w largest ≡ t → t || ltb w rows ≡ true → (w ≡ largest) ⊎ (w < rows)
    go true e h = inl (eqb-true w largest e)
    go false e h = inr (ltb-true w rows h)

pub row_fitting : (rows w : ℕ) → w < rows → fits (row rows) w ≡ true
unfolding fits
row_fitting rows w h = lt-ltb w rows h

pub number_fitting : (most w : ℕ) → w ≤ most → fits (number most) w ≡ true
unfolding fits
number_fitting most w h = le-leb w most h

-- ---- every word of every row fits, and the other way round

module _ (ws : List ℕ) (rules : ℕ → List Rule) (width : ℕ) (wide : (i : ℕ) → length (rules i) ≡ width) (begin rows : ℕ) where
  abbrev Every : Type 0
  Every = (i : ℕ) → i < rows → (k : ℕ) → k < width → fits (get_or (rules i) k unused) (word ws (begin + i * width + k)) ≡ true

  every : rows_verdict ws rules begin 0 rows ≡ accepted → Every
  every h i l k m =
      let z : begin + i * width + 0 ≡ begin + i * width = omega arith in
      let r : row_verdict ws (begin + i * width) (rules i) ≡ accepted = rw (zero-add i) at (rows_row ws rules width wide begin 0 rows h i l) in
      rw (zero-add k) at (row_fits ws (begin + i * width) 0 (rules i) (rw z r) k (omega (arith, wide i)))

  every_row : Every → rows_verdict ws rules begin 0 rows ≡ accepted
  every_row h = row_rows ws rules width wide begin 0 rows λ i l.
      (let z : begin + i * width + 0 ≡ begin + i * width = omega arith in
      rw (zero-add i) (rw z at (fits_row ws (begin + i * width) 0 (rules i) λ k m. rw (zero-add k) (h i l k (omega (arith, wide i))))))

-- ---- what acceptance gives

module _ (ws : List ℕ) where
  record Steps : Type 0 where
    long : 6 ≤ length ws
    counts : counts_verdict ws 1 limits ≡ accepted
    exact : length ws ≡ words_needed ws
    entry : entry_word ws < block_count ws
    words : words_verdict ws ≡ accepted

  steps : checked ws ≡ accepted → Steps
  unfolding checked
  steps h = short (ltb (length ws) 6) refl
    where
      refuses : {code at : ℕ} {A : Type 0} → checked ws ≡ refused code at → A
      refuses e = absurd (let z : ◌≡◌ {A = ℕ} 0 1 = cc in omega arith)

      enters : 6 ≤ length ws → counts_verdict ws 1 limits ≡ accepted → length ws ≡ words_needed ws → (t : Bool) → ltb (entry_word ws) (block_count ws) ≡ t → Steps
      enters l c x true e =
          let n : entry_word ws < block_count ws = ltb-true _ _ e in
          record { long = l; counts = c; exact = x; entry = n; words = sym (checked_words ws l c x n) ∙ h }
      enters l c x false e = refuses (checked_entry ws l c x (ltb-false _ _ e))

      exact : 6 ≤ length ws → counts_verdict ws 1 limits ≡ accepted → (t : Bool) → eqb (length ws) (words_needed ws) ≡ t → Steps
      exact l c true e = enters l c (eqb-true _ _ e) (ltb (entry_word ws) (block_count ws)) refl
      exact l c false e = refuses (checked_length ws l c (eqb-false _ _ e))

      counts : 6 ≤ length ws → (v : Verdict) → counts_verdict ws 1 limits ≡ v → Steps
      counts l accepted e = exact l e (eqb (length ws) (words_needed ws)) refl
      counts l (refused code at) e = refuses {code = code} {at = at} (rw (le-ltb (length ws) 6 l, e, checked))

      short : (t : Bool) → ltb (length ws) 6 ≡ t → Steps
      short true e = refuses (checked_short ws (ltb-true _ _ e))
      short false e = counts (ltb-false _ _ e) (counts_verdict ws 1 limits) refl

  pub promised : checked ws ≡ accepted → Promise ws
  unfolding words_verdict block_word instruction_word case_word place_word identifier_word place_rules identifier_rules
  promised h =
      let s : Steps = steps h in
      let blocks : (rows_verdict ws (block_rules ws) blocks_begin 0 (block_count ws) ≡ accepted) × _ = both _ _ s.words in
      let instructions : (rows_verdict ws (instruction_rules ws) (instructions_begin ws) 0 (instruction_count ws) ≡ accepted) × _ = both _ _ blocks.1 in
      let cases : (rows_verdict ws (case_rules ws) (cases_begin ws) 0 (case_count ws) ≡ accepted) × _ = both _ _ instructions.1 in
      let places : (rows_verdict ws (place_rules ws) (places_begin ws) 0 (place_count ws) ≡ accepted) × _ = both _ _ cases.1 in
      record {
        sized = record { limited = limited ws s.long s.counts; long = s.exact };
        entry = s.entry;
        block = every ws (block_rules ws) 11 (block_width ws) blocks_begin (block_count ws) blocks.0;
        instruction = every ws (instruction_rules ws) 7 (instruction_width ws) (instructions_begin ws) (instruction_count ws) instructions.0;
        case = every ws (case_rules ws) 2 (case_width ws) (cases_begin ws) (case_count ws) cases.0;
        place = λ i l. row_below _ _ (single _ (places_begin ws) i (every ws (place_rules ws) 1 (place_width ws) (places_begin ws) (place_count ws) places.0 i l 0 (omega arith)));
        identifier =
            λ i l. number_most _ _ (single _ (identifiers_begin ws) i
            (every ws (identifier_rules ws) 1 (identifier_width ws) (identifiers_begin ws) (identifier_count ws) places.1 i l 0 (omega arith)));
      }
    where
      single : (rule : Rule) (begin i : ℕ) → fits rule (word ws (begin + i * 1 + 0)) ≡ true → fits rule (word ws (begin + i)) ≡ true
      single rule begin i e = let z : begin + i * 1 + 0 ≡ begin + i = omega arith in rw (← z) e

  pub promise_checked : Promise ws → checked ws ≡ accepted
  unfolding words_verdict block_word instruction_word case_word place_word identifier_word place_rules identifier_rules block_count instruction_count case_count place_count identifier_count
  promise_checked p =
      let l : Limited ws = p.sized.limited in
      checked_words ws l.head (counts_all ws 1 limits (counts l)) p.sized.long p.entry
      ∙ (on _ _ (every_row ws (block_rules ws) 11 (block_width ws) blocks_begin (block_count ws) p.block)
      ∙ (on _ _ (every_row ws (instruction_rules ws) 7 (instruction_width ws) (instructions_begin ws) (instruction_count ws) p.instruction)
      ∙ (on _ _ (every_row ws (case_rules ws) 2 (case_width ws) (cases_begin ws) (case_count ws) p.case)
      ∙ (on _ _ (every_row ws (place_rules ws) 1 (place_width ws) (places_begin ws) (place_count ws) (λ i l k m. single _ (places_begin ws) i k m (row_fitting _ _ (p.place i l))))
      ∙ every_row ws (identifier_rules ws) 1 (identifier_width ws) (identifiers_begin ws) (identifier_count ws)
      (λ i l k m. single _ (identifiers_begin ws) i k m (number_fitting _ _ (p.identifier i l)))))))
    where
      counts : Limited ws → (k : ℕ) → k < 5 → word ws (1 + k) ≤ get_or limits k 0
      counts l zero h = l.blocks
      counts l (suc zero) h = l.instructions
      counts l (suc (suc zero)) h = l.cases
      counts l (suc (suc (suc zero))) h = l.places
      counts l (suc (suc (suc (suc zero)))) h = l.identifiers
      counts l (suc (suc (suc (suc (suc k))))) h = absurd (omega arith)

      single : (rule : Rule) (begin i k : ℕ) → k < 1 → fits rule (word ws (begin + i)) ≡ true → fits (get_or (rule ∷ []) k unused) (word ws (begin + i * 1 + k)) ≡ true
      single rule begin i zero m e = let z : begin + i * 1 + 0 ≡ begin + i = omega arith in rw z e
      single rule begin i (suc k) m e = absurd (omega arith)
