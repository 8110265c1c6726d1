-- The whole file: its line of names, its bytes one by one, and the check of its words.
use mathlib.Core.Path.{◌≡◌, refl, sym, ap, ◌∙◌, subst}
use mathlib.Core.Logic.{◌⊎◌, inl, inr}
use Prim.Native.Nat.{ℕ, suc, ◌+◌, ◌-◌, ◌*◌, ◌/◌, ◌^◌, ◌<◌, ◌≤◌}
use native.Mathlib.Omega.{arith}
use native.Mathlib.Numerals.{add-one}
use mathlib.Core.List.{List, [], ◌∷◌, ◌++◌, append-nil, append_assoc}
use mathlib.Core.Bool.{Bool, true, false, not, ◌||◌, cond}
use lib.ListN.{length, get_or, set, length-set, take, drop, drop_of_length-le, length-append}
use lib.Seq.{drop-cons}
use lib.Dec.{eqb}
use borrow.Author.Tests.{eq-eqb, ne_eqb, eqb-true, eqb-false, le-leb, lt-leb}
use Rattle.std.specs.Prelude.{Option, None, Some, is_some, ok_or, Ok, Err, nat_eq}
use Rattle.std.specs.List.{take_while, zip}
use Rattle.std.specs.Borrow.{Bor}
use Rattle.std.specs.Slice.{IsGetRangeResult}
use Rattle.std.proofs.lemmas.List.Sums.{take_while-cons}
use Rattle.text.specs.Form.{ending}
use Rattle.text.specs.Reading.{is_digit, may_follow}
use Rattle.text.specs.Lent.{Holds}
use Rattle.text.specs.Line.{line}
use Rattle.text.specs.Printed.{tree_names, Written, written_of, lent_of}
use Rattle.text.specs.Prints.{WrittenText}
use Rattle.text.proofs.LentLaws.{holds_none, holds_put, holds_all}
use Rattle.text.proofs.WriteLaws.{line_most, text_fits}
use Rattle.tree_check.specs.Found.{TreeChecked, tree_checked}
use Rattle.tree_check.proofs.ReadLaws.{not_sized}
use Rattle.tree_check.proofs.Simulation.{refused_so}
use Rattle.tree_check.specs.declared.file.BadByte.{BadByte}
use Rattle.tree_check.specs.declared.scan.Scan.{Scan}
use Rattle.tree_check.specs.declared.scan.Step.{Step}
use Rattle.tree_check.specs.Scan.{Scanned, stopped, words, next_column, going_on, gone_by, first_digit, in_number, stepped, with_words, ended_word, scanned, start_scan, alike, table_words, file_words}
use Rattle.tree_check.specs.Prints.{scan_checked, file_checked, check_names, printed_check}
use Rattle.tree_check.specs.Read.{WordsRead, Refused, checked_as}

-- ---- the line of names

pub alike_most : (names file : List ℕ) → (alike names file ≤ length names) × (alike names file ≤ length file)
unfolding alike
alike_most [] file = (omega arith, omega arith)
alike_most (name ∷ names) [] = (omega arith, omega arith)
alike_most (name ∷ names) (byte ∷ file) = by (alike_most names file) (eqb byte name)
  where
    by : (alike names file ≤ length names) × (alike names file ≤ length file)
        → (y : Bool) → (cond y (suc (alike names file)) 0 ≤ suc (length names)) × (cond y (suc (alike names file)) 0 ≤ suc (length file))
    by m true = (omega (arith, m.0), omega (arith, m.1))
    by m false = (omega arith, omega arith)

-- how many bytes of some names the file begins with
pub record NamesEnd (names file : List ℕ) (r : ℕ) : Type 0 where
  pub is : r ≡ alike names file
  pub within : r ≤ length file

-- as the code counts them
alike_counted : (names file : List ℕ) → length (take_while (λ p. nat_eq p.1 p.0) (zip names file)) ≡ alike names file
unfolding alike
alike_counted [] file = refl
alike_counted (name ∷ names) [] = refl
alike_counted (name ∷ names) (byte ∷ file) = rw take_while-cons (by (alike_counted names file) (eqb byte name))
  where
    by : length (take_while (λ p. nat_eq p.1 p.0) (zip names file)) ≡ alike names file
        → (y : Bool) → length (cond y ((name, byte) ∷ take_while (λ p. nat_eq p.1 p.0) (zip names file)) []) ≡ cond y (suc (alike names file)) 0
    by e true = ap suc e
    by e false = refl

pub names_end : (names file : List ℕ) {r : ℕ} → r ≡ length (take_while (λ p. nat_eq p.1 p.0) (zip names file)) → NamesEnd names file r
names_end names file e = record { is = e ∙ alike_counted names file; within = omega (arith, e, alike_counted names file, (alike_most names file).1) }

-- ---- the bytes

pub with_none : (s : Scanned) → with_words [] s ≡ s
with_none (stopped at) = refl
with_none (words list) = refl

pub with_more : (first second : List ℕ) (s : Scanned) → with_words first (with_words second s) ≡ with_words (first ++ second) s
with_more first second (stopped at) = refl
with_more first second (words list) = ap (λ (l : List ℕ). words l) (sym (append_assoc first second list))

pub next_low : (last column : ℕ) → column ≤ last → next_column last column ≤ last
next_low last column h = by (eqb column last) refl
  where
    by : (y : Bool) → eqb column last ≡ y → cond y 0 (column + 1) ≤ last
    by true e = omega arith
    by false e = omega (arith, eqb-false column last e)

-- the column after a step
abbrev Low : (last : ℕ) → Option Step → Type 0
Low last None = Unit {0}
Low last (Some step) = step.scan.column ≤ last

-- whichever side a test chooses
low_cond : (last : ℕ) (y : Bool) (a b : Option Step) → Low last a → Low last b → Low last (cond y a b)
low_cond last true a b p q = p
low_cond last false a b p q = q

step_low : (last : ℕ) (scan : Scan) (byte : ℕ) → scan.column ≤ last → Low last (stepped last scan byte)
unfolding stepped first_digit in_number
step_low last scan byte h = by scan.number
  where
    by : (o : Option ℕ) → Low last (elim o as (λ x. Option Step) [ None ↦ first_digit scan.column byte | Some value ↦ in_number last scan.column value byte ])
    by None = low_cond last (is_digit byte) (Some (going_on scan.column (byte - 48))) None h tt
    by (Some value) =
        low_cond last (eqb byte (ending (eqb scan.column last))) (Some (gone_by last scan.column value))
        (cond (may_follow value byte) (Some (going_on scan.column (value * 10 + (byte - 48)))) None) (next_low last scan.column h)
        (low_cond last (may_follow value byte) (Some (going_on scan.column (value * 10 + (byte - 48)))) None h tt)

pub column_low : (last : ℕ) (scan : Scan) (byte : ℕ) → scan.column ≤ last → {step : Step} → stepped last scan byte ≡ Some step → step.scan.column ≤ last
column_low last scan byte h e = subst (Low last) e (step_low last scan byte h)

-- ---- the file

-- no line of names
pub names_refused : (names : List ℕ) (last : ℕ) {file : List ℕ} {start : ℕ} → NamesEnd names file start → (start ≡ length names → ⊥) → Refused names last file start
names_refused names last {file} {start} n f = record { is = told; within = n.within }
  where
    told : table_words names last file ≡ stopped start
    told = unfold table_words in rw (ne_eqb (alike names file) (length names) (λ z. f (n.is ∙ z)), table_words, ← n.is)

module _ (names : List ℕ) (last : ℕ) (file : List ℕ) where
  -- what is left of the bytes gives what the whole gives
  pub record Scanning (room : ℕ) (lent : List ℕ) (scan : Scan) (count at : ℕ) : Type 0 where
    pub long : length lent ≡ room
    pub items : List ℕ
    pub rest : table_words names last file ≡ with_words items (scanned last scan at (drop at file))
    pub holds : Holds lent count items
    pub within : at ≤ length file
    pub few : count ≤ at
    pub columns : scan.column ≤ last

  pub scanning_start : {lent : List ℕ} {start : ℕ} → NamesEnd names file start → start ≡ length names → Scanning (length lent) lent start_scan 0 start
  scanning_start {lent} {start} n e =
      let told : table_words names last file ≡ scanned last start_scan (length names) (drop (length names) file) =
      unfold table_words in rw (eq-eqb (alike names file) (length names) (sym n.is ∙ e), table_words) in
      rw e (record {
        long = refl;
        items = [];
        rest = told ∙ sym (with_none (scanned last start_scan (length names) (drop (length names) file)));
        holds = holds_none lent;
        within = omega (arith, n.within, e);
        few = omega arith;
        columns = omega arith;
      })

  module _ {room : ℕ} {lent : List ℕ} {scan : Scan} {count at : ℕ} (s : Scanning room lent scan count at) where
    module _ (more : at < length file) {next : Option Step} (is : next ≡ stepped last scan (get_or file at 0)) where
      opened_scan : scanned last scan at (drop at file)
          ≡ elim next [ None ↦ stopped at | Some step ↦ with_words (ended_word step) (scanned last step.scan (suc at) (drop (suc at) file)) ]
      unfolding scanned
      opened_scan = rw (drop-cons file at 0 more, is)

      pub scan_refused : {bad : BadByte} → Err bad ≡ ok_or next (record { at = at }) → Refused names last file bad.at
      scan_refused {bad} e = by next refl e
        where
          by : (o : Option Step) → next ≡ o → Err bad ≡ ok_or o (record { at = at }) → Refused names last file bad.at
          by None q e =
              let z : bad ≡ record { at = at } = cc in
              let told : scanned last scan at (drop at file) ≡ stopped at = opened_scan ∙ rw q in
              rw z (record { is = s.rest ∙ ap (with_words s.items) told; within = s.within })
          by (Some step) q e = cc

      module _ {step : Step} (bad : BadByte) (ok : Ok step ≡ ok_or next bad) where
        e : next ≡ Some step
        e = by next refl ok
          where
            by : (o : Option Step) → next ≡ o → Ok step ≡ ok_or o bad → next ≡ Some step
            by None q ok = cc
            by (Some other) q ok = let z : other ≡ step = cc in q ∙ ap Some z

        on : table_words names last file ≡ with_words (s.items ++ ended_word step) (scanned last step.scan (at + 1) (drop (at + 1) file))
        on =
            let here : scanned last scan at (drop at file) ≡ with_words (ended_word step) (scanned last step.scan (at + 1) (drop (at + 1) file)) = opened_scan ∙ rw (e, add-one at) in
            s.rest ∙ (ap (with_words s.items) here ∙ with_more s.items (ended_word step) (scanned last step.scan (at + 1) (drop (at + 1) file)))

        columns : step.scan.column ≤ last
        columns = column_low last scan (get_or file at 0) s.columns (sym is ∙ e)

        -- no word has ended
        pub scan_on : step.ended ≡ None → Scanning room lent step.scan count (at + 1)
        scan_on n = record {
          long = s.long;
          items = s.items;
          rest = on ∙ rw (n, append-nil s.items);
          holds = s.holds;
          within = omega arith;
          few = omega (arith, s.few);
          columns = columns;
        }

        -- one word has, and is stored if there is a place for it
        pub scan_keeps : {word : ℕ} → step.ended ≡ Some word → {lent' : List ℕ} → lent' ≡ set lent count word → Scanning room lent' step.scan (count + 1) (at + 1)
        scan_keeps {word} w q = rw q (record {
          long = length-set lent count word ∙ s.long;
          items = s.items ++ word ∷ [];
          rest = on ∙ rw w;
          holds = holds_put lent count word s.items s.holds;
          within = omega arith;
          few = omega (arith, s.few);
          columns = columns;
        })

    -- the file's end, which must be that of a line
    module _ (h : length file ≤ at) where
      all : table_words names last file ≡ with_words s.items (elim (is_some scan.number || not (eqb scan.column 0)) [ true ↦ stopped (length file) | false ↦ words [] ])
      unfolding scanned
      all =
          let z : at ≡ length file = omega (arith, s.within) in
          s.rest ∙ ap (with_words s.items) (rw (drop_of_length-le file h, z))

      pub cut_short : {some : Bool} → some ≡ is_some scan.number → (some ≡ true) ⊎ ((some ≡ false) × (scan.column ≡ 0 → ⊥)) → Refused names last file (length file)
      cut_short q (inl e) = record { is = all ∙ rw (sym q ∙ e); within = omega arith }
      cut_short q (inr (e, f)) = record { is = all ∙ rw (sym q ∙ e, ne_eqb scan.column 0 f); within = omega arith }

      pub scan_ends : {some : Bool} → some ≡ is_some scan.number → some ≡ false → scan.column ≡ 0 → WordsRead names last file lent count
      scan_ends q e z = record { list = s.items; is = all ∙ rw (sym q ∙ e, z, append-nil s.items); held = s.holds; few = omega (arith, s.few, s.within) }

-- ---- the check of the words

take_range : (lent : List ℕ) (count : ℕ) → take (count - 0) lent ≡ take count lent
take_range lent count = ap (λ (n : ℕ). take n lent) (omega arith)

-- the first `count` of the words lent, which are fewer where there is no such part
module _ {E : Type 0} (lent : List ℕ) (count : ℕ) (part : Option (Bor (List ℕ))) (got : IsGetRangeResult lent 0 count part) (refused : E) where
  pub no_part : {error : E} → Err error ≡ ok_or part refused → (error ≡ refused) × (length lent < count)
  no_part {error} told = by part got told
    where
      by : (o : Option (Bor (List ℕ))) → IsGetRangeResult lent 0 count o → Err error ≡ ok_or o refused → (error ≡ refused) × (length lent < count)
      by None g q = elim g.0 [ inl h ↦ absurd (omega (arith, h)) | inr h ↦ (cc, h) ]
      by (Some x) g q = cc

  pub part_held : {words : Bor (List ℕ)} → Ok words ≡ ok_or part refused → (count ≤ length lent) × (words.now ≡ take count lent)
  part_held {words} told = by part got told
    where
      by : (o : Option (Bor (List ℕ))) → IsGetRangeResult lent 0 count o → Ok words ≡ ok_or o refused → (count ≤ length lent) × (words.now ≡ take count lent)
      by None g q = cc
      by (Some x) g q = let z : words ≡ x = cc in (g.0.1, rw z (g.0.2 ∙ take_range lent count))

module _ {lent : List ℕ} (room : length lent ≡ 12288) {count : ℕ} {list : List ℕ} (h : Holds lent count list) where
  pub too_many_words : length lent < count → checked_as list (record { code = 62; at = 0 })
  too_many_words l =
      let long : 12288 < length list = omega (arith, h.counted) in
      refused_so list (not_sized list (by (eqb (length list) (length list / 6 * 6)) refl long))
    where
      by : (y : Bool) → eqb (length list) (length list / 6 * 6) ≡ y → 12288 < length list
          → (length list ≡ length list / 6 * 6 → ⊥)
          ⊎ (((length list ≡ length list / 6 * 6) × (length list / 6 ≡ 0)) ⊎ ((length list ≡ length list / 6 * 6) × (length list / 6 ≡ 0 → ⊥) × (2048 < length list / 6)))
      by true e l = let w : length list ≡ length list / 6 * 6 = eqb-true (length list) (length list / 6 * 6) e in inr (inr (w, (λ z. omega arith), omega arith))
      by false e l = inl (eqb-false (length list) (length list / 6 * 6) e)

  pub words_checked : count ≤ length lent → {r : TreeChecked} → r ≡ tree_checked (take count lent) → checked_as list r
  words_checked l e = e ∙ ap tree_checked (holds_all lent count list h l)

module _ (file : List ℕ) where
  pub file_long : 262144 < length file → record { code = 51; at = 0 } ≡ file_checked file
  unfolding file_checked
  file_long h = rw (lt-leb (length file) 262144 h, file_checked)

  module _ (short : length file ≤ 262144) where
    within_limit : file_checked file ≡ scan_checked (file_words file)
    unfolding file_checked
    within_limit = rw (le-leb (length file) 262144 short, file_checked)

    pub file_refused : {at : ℕ} → Refused tree_names 5 file at → record { code = 50; at = at } ≡ file_checked file
    file_refused r = sym (within_limit ∙ rw r.is)

    pub file_read : {lent : List ℕ} {count : ℕ} → WordsRead tree_names 5 file lent count → {r : TreeChecked} → ((list : List ℕ) → Holds lent count list → checked_as list r) → r ≡ file_checked file
    file_read w h = h w.list w.held ∙ sym (within_limit ∙ rw w.is)

-- ---- what is printed

-- 30 bytes are enough
pub check_written : (code at : ℕ) {room : ℕ} {r : Written} {lent : List ℕ} → code < 2 ^ 32 → at < 2 ^ 32
    → r ≡ written_of room (printed_check (record { code = code; at = at })) → lent ≡ lent_of room (printed_check (record { code = code; at = at }))
    → WrittenText 30 (printed_check (record { code = code; at = at })) room r lent
unfolding printed_check
check_written code at {room} p q answer bytes = record {
  answer = answer;
  bytes = bytes;
  enough = λ long. answer ∙ text_fits room (check_names ++ line (code ∷ at ∷ [])) (simp length-append (omega (arith, line_most (code ∷ at ∷ []) (p, (q, tt)), long)));
}
