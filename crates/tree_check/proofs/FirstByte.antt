-- `table_words` reads just the good files, and the place that it stops at is the first byte no good file could have there, or the file's length.
use mathlib.Core.Path.{◌≡◌, refl, sym, ap, ◌∙◌, subst}
use Prim.Native.Nat.{ℕ, zero, suc, ◌+◌, ◌-◌, ◌*◌, ◌^◌, ◌<◌, ◌≤◌}
use native.Mathlib.Omega.{arith}
use mathlib.Core.List.{List, [], ◌∷◌, ◌++◌, append-nil, append_assoc}
use mathlib.Core.Bool.{Bool, true, false, not, ◌||◌, ◌&&◌, cond}
use lib.ListN.{length, take, drop, replicate, length-append, length-replicate}
use lib.Seq.{take-add, take_at, drop_at}
use lib.Dec.{eqb, leb, ltb}
use borrow.Author.Tests.{eq-eqb, ne_eqb, eqb-true, eqb-false, leb-true, ltb-true}
use Rattle.std.specs.Prelude.{Option, None, Some, is_some}
use Rattle.text.specs.Form.{ending}
use Rattle.text.specs.Reading.{is_digit, may_follow}
use Rattle.text.specs.Decimal.{decimal}
use Rattle.text.specs.Line.{line, lines, flat}
use Rattle.text.specs.File.{Words, Rows}
use Rattle.text.proofs.DecimalLaws.{decimal_small, decimal_next}
use Rattle.tree_grammar.proofs.Upto.{and_both}
use Rattle.tree_check.specs.declared.scan.Scan.{Scan}
use Rattle.tree_check.specs.declared.scan.Step.{Step}
use Rattle.tree_check.specs.Scan.{Scanned, stopped, words, next_column, going_on, gone_by, first_digit, in_number, stepped, with_words, ended_word, scanned, start_scan, alike, table_words}
use Rattle.tree_check.specs.Good.{TableFile, RefusedAt}
use Rattle.tree_check.proofs.FileLaws.{alike_most, with_none, column_low, next_low}
use Rattle.tree_check.proofs.ReadBack.{opened, closed, goes_on, LineRead, line_one, line_more, last_ending, other_ending, first_column, later_column, line_read, names_there, table_back}

none_some : {n : ℕ} → None ≡ Some n → ⊥
none_some e = cc

stopped_words : {at : ℕ} {list : List ℕ} → stopped at ≡ words list → ⊥
stopped_words e = let z : ◌≡◌ {A = ℕ} 0 1 = cc in omega arith

stopped_at : {at n : ℕ} → stopped at ≡ stopped n → at ≡ n
stopped_at e = cc

words_are : {l k : List ℕ} → words l ≡ words k → l ≡ k
words_are e = cc

-- ---- what a byte does

digit_small : (byte : ℕ) → is_digit byte ≡ true → (byte - 48 < 10) × (byte ≡ 48 + (byte - 48))
unfolding is_digit
digit_small byte e =
    let a : (leb 48 byte ≡ true) × (leb byte 57 ≡ true) = and_both (leb 48 byte) (leb byte 57) e in
    let low : 48 ≤ byte = leb-true 48 byte a.0 in
    let high : byte ≤ 57 = leb-true byte 57 a.1 in
    (omega arith, omega arith)

record Follows (value byte : ℕ) : Type 0 where
  digit : is_digit byte ≡ true
  led : 0 < value
  fits : value * 10 + (byte - 48) < 2 ^ 32

follows : (value byte : ℕ) → may_follow value byte ≡ true → Follows value byte
unfolding may_follow
follows value byte e =
    let a : (is_digit byte ≡ true) × (ltb 0 value && ltb (value * 10 + (byte - 48)) 4294967296 ≡ true) = and_both (is_digit byte) _ e in
    let b : (ltb 0 value ≡ true) × (ltb (value * 10 + (byte - 48)) 4294967296 ≡ true) = and_both (ltb 0 value) _ a.1 in
    record { digit = a.0; led = ltb-true 0 value b.0; fits = ltb-true (value * 10 + (byte - 48)) 4294967296 b.1 }

module _ (last : ℕ) where
  -- it is refused, or it begins, ends or lengthens a number
  data Does (scan : Scan) (byte : ℕ) : Type 0 where
    refuses : stepped last scan byte ≡ None → Does scan byte
    begins : (d : ℕ) → d < 10 → byte ≡ 48 + d → scan.number ≡ None → stepped last scan byte ≡ Some (going_on scan.column d) → Does scan byte
    ends : (v : ℕ) → scan.number ≡ Some v → byte ≡ ending (eqb scan.column last) → stepped last scan byte ≡ Some (gone_by last scan.column v) → Does scan byte
    lengthens : (v d : ℕ) → d < 10 → byte ≡ 48 + d → scan.number ≡ Some v → 0 < v → v * 10 + d < 2 ^ 32
        → stepped last scan byte ≡ Some (going_on scan.column (v * 10 + d)) → Does scan byte

  step_does : (scan : Scan) (byte : ℕ) → Does scan byte
  step_does scan byte = by scan.number refl
    where
      first : scan.number ≡ None → (y : Bool) → is_digit byte ≡ y → Does scan byte
      first o true e =
          let d : (byte - 48 < 10) × (byte ≡ 48 + (byte - 48)) = digit_small byte e in
          begins (byte - 48) d.0 d.1 o (unfold stepped first_digit in rw (o, e))
      first o false e = refuses (unfold stepped first_digit in rw (o, e))

      inside : (v : ℕ) → scan.number ≡ Some v → (y : Bool) → eqb byte (ending (eqb scan.column last)) ≡ y → (z : Bool) → may_follow v byte ≡ z → Does scan byte
      inside v o true e z q = ends v o (eqb-true byte (ending (eqb scan.column last)) e) (unfold stepped in_number in rw (o, e))
      inside v o false e true q =
          let f : Follows v byte = follows v byte q in
          let d : (byte - 48 < 10) × (byte ≡ 48 + (byte - 48)) = digit_small byte f.digit in
          lengthens v (byte - 48) d.0 d.1 o f.led f.fits (unfold stepped in_number in rw (o, e, q))
      inside v o false e false q = refuses (unfold stepped in_number in rw (o, e, q))

      by : (o : Option ℕ) → scan.number ≡ o → Does scan byte
      by None o = first o (is_digit byte) refl
      by (Some v) o = inside v o (eqb byte (ending (eqb scan.column last))) refl (may_follow v byte) refl

  -- a byte that is refused stops the scan
  stops_here : (scan : Scan) (at byte : ℕ) (rest : List ℕ) → stepped last scan byte ≡ None → scanned last scan at (byte ∷ rest) ≡ stopped at
  unfolding scanned
  stops_here scan at byte rest e = ap (λ (o : Option Step). elim o [ None ↦ stopped at | Some step ↦ with_words (ended_word step) (scanned last step.scan (suc at) rest) ]) e

  -- ---- what is read is a good file's

  -- the numbers of a line from a column on, and whole lines behind them
  record Left (column : ℕ) (text list : List ℕ) : Type 0 where
    numbers : List ℕ
    rows : List (List ℕ)
    fit : Words numbers
    formed : Rows (suc last) rows
    long : column + length numbers ≡ suc last
    same : text ≡ line numbers ++ lines rows
    all : list ≡ numbers ++ flat rows

  record Whole (text list : List ℕ) : Type 0 where
    rows : List (List ℕ)
    formed : Rows (suc last) rows
    same : text ≡ lines rows
    all : list ≡ flat rows

  record Said (scan : Scan) (text list : List ℕ) : Type 0 where
    inside : (v : ℕ) → scan.number ≡ Some v → Left scan.column (decimal v ++ text) list
    first : scan.number ≡ None → scan.column ≡ 0 → Whole text list
    later : scan.number ≡ None → (scan.column ≡ 0 → ⊥) → Left scan.column text list

  whole_line : {column : ℕ} {text list : List ℕ} → column ≡ 0 → Left column text list → Whole text list
  unfolding lines flat
  whole_line e l = record {
    rows = l.numbers ∷ l.rows;
    formed = (record { long = omega (arith, l.long, e); words = l.fit }, l.formed);
    same = l.same;
    all = l.all;
  }

  -- a number before whole lines, or before the rest of its line
  last_number : {column value : ℕ} {text list : List ℕ} → column ≡ last → value < 2 ^ 32 → Whole text list → Left column (decimal value ++ (10 ∷ text)) (value ∷ list)
  last_number {column} {value} e v w = record {
    numbers = value ∷ [];
    rows = w.rows;
    fit = (v, tt);
    formed = w.formed;
    long = omega (arith, e);
    same = ap (λ (z : List ℕ). decimal value ++ (10 ∷ z)) w.same ∙ sym (line_one last value (lines w.rows));
    all = ap (λ (z : List ℕ). value ∷ z) w.all;
  }

  one_number : {column value : ℕ} {text list : List ℕ} → (column ≡ last → ⊥) → column ≤ last → value < 2 ^ 32 → Left (column + 1) text list
      → Left column (decimal value ++ (32 ∷ text)) (value ∷ list)
  one_number {column} {value} {text} {list} f c v l = by l.numbers l.fit l.long l.same l.all
    where
      by : (numbers : List ℕ) → Words numbers → column + 1 + length numbers ≡ suc last → text ≡ line numbers ++ lines l.rows → list ≡ numbers ++ flat l.rows
          → Left column (decimal value ++ (32 ∷ text)) (value ∷ list)
      by [] w e s a = absurd (f (omega (arith, e)))
      by (m ∷ numbers) w e s a = record {
        numbers = value ∷ m ∷ numbers;
        rows = l.rows;
        fit = (v, w);
        formed = l.formed;
        long = omega (arith, e);
        same = ap (λ (z : List ℕ). decimal value ++ (32 ∷ z)) s ∙ sym (line_more last value m numbers (lines l.rows));
        all = ap (λ (z : List ℕ). value ∷ z) a;
      }

  -- a number has ended
  number_ended : (column value : ℕ) {text list : List ℕ} → column ≤ last → value < 2 ^ 32 → Said (closed last column) text list
      → Left column (decimal value ++ (ending (eqb column last) ∷ text)) (value ∷ list)
  number_ended column value {text} {list} c v s = by (eqb column last) refl
    where
      by : (y : Bool) → eqb column last ≡ y → Left column (decimal value ++ (ending (eqb column last) ∷ text)) (value ∷ list)
      by true e =
          let at_last : column ≡ last = eqb-true column last e in
          rw (← (last_ending last column at_last)) (last_number at_last v (s.first refl (first_column last column at_last)))
      by false e =
          let before : column ≡ last → ⊥ = eqb-false column last e in
          let next : next_column last column ≡ column + 1 = later_column last column before in
          let rest : Left (next_column last column) text list = s.later refl (λ z. omega (arith, z, next)) in
          rw (← (other_ending last column before)) (one_number before c v (subst (λ (k : ℕ). Left k text list) next rest))

  -- the words after some
  words_after : (before : List ℕ) (s : Scanned) (list : List ℕ) → with_words before s ≡ words list → (rest : List ℕ) × (s ≡ words rest) × (list ≡ before ++ rest)
  words_after before (stopped at) list e = absurd (stopped_words e)
  words_after before (words rest) list e = (rest, refl, sym (words_are e))

  -- what is said of a scan in a number
  open_said : {scan : Scan} {text list : List ℕ} (n : ℕ) → scan.number ≡ Some n → Left scan.column (decimal n ++ text) list → Said scan text list
  open_said {scan} {text} {list} n o l = record {
    inside = λ v p. let z : n ≡ v = cc in rw (← z) l;
    first = λ p _. absurd (none_some (sym p ∙ o));
    later = λ p _. absurd (none_some (sym p ∙ o));
  }

  abbrev Fits : Scan → Type 0
  Fits scan = (v : ℕ) → scan.number ≡ Some v → v < 2 ^ 32

  open_fits : (column n : ℕ) → n < 2 ^ 32 → Fits (opened last column n)
  open_fits column n h v e = let z : n ≡ v = cc in rw (← z) h

  closed_fits : (column : ℕ) → Fits (closed last column)
  closed_fits column v e = cc

  abbrev Sound : List ℕ → Type 0
  Sound bytes = (scan : Scan) (at : ℕ) (list : List ℕ) → scan.column ≤ last → Fits scan → scanned last scan at bytes ≡ words list → Said scan bytes list

  sound_none : Sound []
  sound_none scan at list c v e = by scan.number refl (eqb scan.column 0) refl
    where
      end : scanned last scan at [] ≡ elim (is_some scan.number || not (eqb scan.column 0)) [ true ↦ stopped at | false ↦ words [] ]
      end = unfold scanned in refl

      by : (o : Option ℕ) → scan.number ≡ o → (y : Bool) → eqb scan.column 0 ≡ y → Said scan [] list
      by (Some v) p y q = let s : scanned last scan at [] ≡ stopped at = end ∙ rw p in absurd (stopped_words (sym s ∙ e))
      by None p false q = let s : scanned last scan at [] ≡ stopped at = end ∙ rw (p, q) in absurd (stopped_words (sym s ∙ e))
      by None p true q =
          let s : scanned last scan at [] ≡ words [] = end ∙ rw (p, q) in
          let none : [] ≡ list = words_are (sym s ∙ e) in
          record {
            inside = λ v o. absurd (none_some (sym p ∙ o));
            first = λ _ z. record { rows = []; formed = tt; same = unfold lines in refl; all = sym none ∙ (unfold flat in refl) };
            later = λ _ f. absurd (f (eqb-true scan.column 0 q));
          }

  sound_more : (byte : ℕ) (bytes : List ℕ) → Sound bytes → Sound (byte ∷ bytes)
  sound_more byte bytes on scan at list c v e = by (step_does scan byte)
    where
      by : Does scan byte → Said scan (byte ∷ bytes) list
      by (refuses r) = absurd (stopped_words (sym (stops_here scan at byte bytes r) ∙ e))
      by (begins d h s o q) =
          let rest : scanned last (opened last scan.column d) (suc at) bytes ≡ words list =
          sym (goes_on last scan (going_on scan.column d) at byte bytes q ∙ with_none (scanned last (opened last scan.column d) (suc at) bytes)) ∙ e in
          let l : Left scan.column (decimal d ++ bytes) list =
          (on (opened last scan.column d) (suc at) list c (open_fits scan.column d (omega (arith, h))) rest).inside d refl in
          let text : decimal d ++ bytes ≡ byte ∷ bytes = rw (decimal_small d h, s) in
          let here : Left scan.column (byte ∷ bytes) list = subst (λ (z : List ℕ). Left scan.column z list) text l in
          record { inside = λ v p. absurd (none_some (sym o ∙ p)); first = λ _ z. whole_line z here; later = λ _ _. here }
      by (ends n o b q) =
          let rest : with_words (n ∷ []) (scanned last (closed last scan.column) (suc at) bytes) ≡ words list =
          sym (goes_on last scan (gone_by last scan.column n) at byte bytes q) ∙ e in
          let w = words_after (n ∷ []) (scanned last (closed last scan.column) (suc at) bytes) list rest in
          let s : Said (closed last scan.column) bytes w.0 = on (closed last scan.column) (suc at) w.0 (next_low last scan.column c) (closed_fits scan.column) w.1 in
          let here : Left scan.column (decimal n ++ (byte ∷ bytes)) list = rw (b, w.2) (number_ended scan.column n c (v n o) s) in
          open_said n o here
      by (lengthens n d h s o p f q) =
          let more : ℕ = n * 10 + d in
          let rest : scanned last (opened last scan.column more) (suc at) bytes ≡ words list =
          sym (goes_on last scan (going_on scan.column more) at byte bytes q ∙ with_none (scanned last (opened last scan.column more) (suc at) bytes)) ∙ e in
          let l : Left scan.column (decimal more ++ bytes) list = (on (opened last scan.column more) (suc at) list c (open_fits scan.column more f) rest).inside more refl in
          let text : decimal more ++ bytes ≡ decimal n ++ (byte ∷ bytes) =
          ap (λ (z : List ℕ). z ++ bytes) (decimal_next n d p h) ∙ (append_assoc (decimal n) ((48 + d) ∷ []) bytes ∙ ap (λ (z : ℕ). decimal n ++ (z ∷ bytes)) (sym s)) in
          open_said n o (subst (λ (z : List ℕ). Left scan.column z list) text l)

  sound : (bytes : List ℕ) → Sound bytes
  sound [] = sound_none
  sound (byte ∷ bytes) = sound_more byte bytes (sound bytes)

  -- ---- where it stops

  zeros_fit : (n : ℕ) → Words (replicate n 0)
  zeros_fit zero = tt
  zeros_fit (suc n) = (omega arith, zeros_fit n)

  -- bytes that make a file of what was read so far
  record Filled (scan : Scan) (at : ℕ) : Type 0 where
    rest : List ℕ
    list : List ℕ
    reads : scanned last scan at rest ≡ words list

  ended_scan : (scan : Scan) (at : ℕ) → scan.number ≡ None → scan.column ≡ 0 → scanned last scan at [] ≡ words []
  unfolding scanned
  ended_scan scan at o f = rw (o, f)

  fill_line : (scan : Scan) (at : ℕ) → scan.column ≤ last → scan.number ≡ None → Filled scan at
  fill_line scan at c o =
      let zeros : List ℕ = replicate (last - scan.column) 0 in
      let many : length zeros ≡ last - scan.column = length-replicate (last - scan.column) 0 in
      let l : LineRead last scan at (0 ∷ zeros) [] = line_read last zeros 0 scan at [] (omega arith, zeros_fit (last - scan.column)) o (omega (arith, many, c)) in
      let end : scanned last l.next l.place [] ≡ words [] = ended_scan l.next l.place l.outside l.first in
      record { rest = line (0 ∷ zeros) ++ []; list = (0 ∷ zeros) ++ []; reads = l.same ∙ ap (with_words (0 ∷ zeros)) end }

  fill : (scan : Scan) (at : ℕ) → scan.column ≤ last → Filled scan at
  fill scan at c = by scan.number refl
    where
      by : (o : Option ℕ) → scan.number ≡ o → Filled scan at
      by None o = fill_line scan at c o
      by (Some n) o =
          let byte : ℕ = ending (eqb scan.column last) in
          let is : stepped last scan byte ≡ Some (gone_by last scan.column n) = unfold stepped in_number in rw (o, eq-eqb byte byte refl) in
          let f : Filled (closed last scan.column) (suc at) = fill_line (closed last scan.column) (suc at) (next_low last scan.column c) refl in
          record {
            rest = byte ∷ f.rest;
            list = (n ∷ []) ++ f.list;
            reads = goes_on last scan (gone_by last scan.column n) at byte f.rest is ∙ ap (with_words (n ∷ [])) f.reads;
          }

  record Stops (bytes : List ℕ) (scan : Scan) (at n : ℕ) : Type 0 where
    least : at ≤ n
    most : n ≤ at + length bytes
    viable : (rest : List ℕ) × (list : List ℕ) × (scanned last scan at (take (n - at) bytes ++ rest) ≡ words list)
    further : n < at + length bytes → (rest : List ℕ) → scanned last scan at (take (suc n - at) bytes ++ rest) ≡ stopped n

  abbrev Stopping : List ℕ → Type 0
  Stopping bytes = (scan : Scan) (at n : ℕ) → scan.column ≤ last → scanned last scan at bytes ≡ stopped n → Stops bytes scan at n

  -- it stops at once
  stops_now : (bytes : List ℕ) (scan : Scan) (at n : ℕ) → scan.column ≤ last → at ≡ n → (n < at + length bytes → (rest : List ℕ) → scanned last scan at (take 1 bytes ++ rest) ≡ stopped at)
      → Stops bytes scan at n
  stops_now bytes scan at n c e f =
      let none : n - at ≡ 0 = omega (arith, e) in
      let one : suc n - at ≡ 1 = omega (arith, e) in
      let full = fill scan at c in
      record {
        least = omega (arith, e);
        most = omega (arith, e);
        viable = (full.rest, full.list, rw none full.reads);
        further = λ l rest. rw one (f l rest ∙ ap stopped e);
      }

  stopping_none : Stopping []
  stopping_none scan at n c e = stops_now [] scan at n c place (λ l. absurd (omega (arith, l, place)))
    where
      end : scanned last scan at [] ≡ elim (is_some scan.number || not (eqb scan.column 0)) [ true ↦ stopped at | false ↦ words [] ]
      end = unfold scanned in refl

      by : (y : Bool) → elim y [ true ↦ stopped at | false ↦ words [] ] ≡ stopped n → at ≡ n
      by true q = stopped_at q
      by false q = absurd (stopped_words (sym q))

      place : at ≡ n
      place = by (is_some scan.number || not (eqb scan.column 0)) (sym end ∙ e)

  -- a scan behind some words stops where it stops
  stops_after : (before : List ℕ) (s : Scanned) (n : ℕ) → with_words before s ≡ stopped n → s ≡ stopped n
  stops_after before (stopped at) n e = e
  stops_after before (words rest) n e = absurd (stopped_words (sym e))

  stopping_more : (byte : ℕ) (bytes : List ℕ) → Stopping bytes → Stopping (byte ∷ bytes)
  stopping_more byte bytes on scan at n c e = by (stepped last scan byte) refl
    where
      by : (o : Option Step) → stepped last scan byte ≡ o → Stops (byte ∷ bytes) scan at n
      by None r =
          let here : at ≡ n = stopped_at (sym (stops_here scan at byte bytes r) ∙ e) in
          stops_now (byte ∷ bytes) scan at n c here (λ l rest. stops_here scan at byte rest r)
      by (Some step) r =
          let next : Scan = step.scan in
          let after : scanned last next (suc at) bytes ≡ stopped n =
          stops_after (ended_word step) (scanned last next (suc at) bytes) n (sym (goes_on last scan step at byte bytes r) ∙ e) in
          let s : Stops bytes next (suc at) n = on next (suc at) n (column_low last scan byte c r) after in
          let one : n - at ≡ suc (n - suc at) = omega (arith, s.least) in
          let two : suc n - at ≡ suc (suc n - suc at) = omega (arith, s.least) in
          record {
            least = omega (arith, s.least);
            most = omega (arith, s.most);
            viable = (
              s.viable.0,
              ended_word step ++ s.viable.1,
              rw one (goes_on last scan step at byte (take (n - suc at) bytes ++ s.viable.0) r ∙ ap (with_words (ended_word step)) s.viable.2),
            );
            further = λ l rest. rw two (goes_on last scan step at byte (take (suc n - suc at) bytes ++ rest) r ∙ ap (with_words (ended_word step)) (s.further (omega (arith, l)) rest));
          }

  stopping : (bytes : List ℕ) → Stopping bytes
  stopping [] = stopping_none
  stopping (byte ∷ bytes) = stopping_more byte bytes (stopping bytes)

-- ---- the line of names

-- what is alike of the file, and then the rest of the names
alike_taken : (names file : List ℕ) → take (alike names file) file ++ drop (alike names file) names ≡ names
unfolding alike
alike_taken [] file = refl
alike_taken (name ∷ names) [] = refl
alike_taken (name ∷ names) (byte ∷ file) = by (alike_taken names file) (eqb byte name) refl
  where
    by : take (alike names file) file ++ drop (alike names file) names ≡ names
        → (y : Bool) → eqb byte name ≡ y → take (cond y (suc (alike names file)) 0) (byte ∷ file) ++ drop (cond y (suc (alike names file)) 0) (name ∷ names) ≡ name ∷ names
    by on true e = rw (eqb-true byte name e) (ap (λ (z : List ℕ). name ∷ z) on)
    by on false e = refl

-- the names are there, and the rest comes after them
alike_all : (names file : List ℕ) → alike names file ≡ length names → file ≡ names ++ drop (length names) file
unfolding alike
alike_all [] file e = refl
alike_all (name ∷ names) [] e = absurd (omega (arith, e))
alike_all (name ∷ names) (byte ∷ file) e = by (λ q. alike_all names file q) (eqb byte name) refl e
  where
    by : (alike names file ≡ length names → file ≡ names ++ drop (length names) file)
        → (y : Bool) → eqb byte name ≡ y → cond y (suc (alike names file)) 0 ≡ suc (length names) → byte ∷ file ≡ name ∷ (names ++ drop (length names) file)
    by on true p q = rw (eqb-true byte name p) (ap (λ (z : List ℕ). name ∷ z) (on (omega (arith, q))))
    by on false p q = absurd (omega (arith, q))

-- the byte at which they differ, whatever comes after it
alike_stops : (names file rest : List ℕ) → alike names file < length names → alike names file < length file → alike names (take (suc (alike names file)) file ++ rest) ≡ alike names file
unfolding alike
alike_stops [] file rest h l = absurd (omega (arith, h))
alike_stops (name ∷ names) [] rest h l = absurd (omega (arith, l))
alike_stops (name ∷ names) (byte ∷ file) rest h l = by (λ p q. alike_stops names file rest p q) (eqb byte name) refl h l
  where
    by : (alike names file < length names → alike names file < length file → alike names (take (suc (alike names file)) file ++ rest) ≡ alike names file)
        → (y : Bool) → eqb byte name ≡ y → cond y (suc (alike names file)) 0 < suc (length names) → cond y (suc (alike names file)) 0 < suc (length file)
        → alike (name ∷ names) (take (suc (cond y (suc (alike names file)) 0)) (byte ∷ file) ++ rest) ≡ cond y (suc (alike names file)) 0
    by on true p h l = rw p (ap suc (on (omega (arith, h)) (omega (arith, l))))
    by on false p h l = rw p

-- ---- the file

module _ (names : List ℕ) (last : ℕ) where
  names_stop : (file : List ℕ) → (alike names file ≡ length names → ⊥) → table_words names last file ≡ stopped (alike names file)
  unfolding table_words
  names_stop file f = rw (table_words, ne_eqb (alike names file) (length names) f)

  names_read : (file : List ℕ) → alike names file ≡ length names → table_words names last file ≡ scanned last start_scan (length names) (drop (length names) file)
  unfolding table_words
  names_read file e = rw (table_words, eq-eqb (alike names file) (length names) e)

  -- a good file is read
  pub good_read : {file : List ℕ} (t : TableFile names last file) → table_words names last file ≡ words (flat t.rows)
  good_read t = ap (table_words names last) t.text ∙ table_back names last t.rows t.formed

  not_good : {file : List ℕ} {n : ℕ} → table_words names last file ≡ stopped n → TableFile names last file → ⊥
  not_good e t = stopped_words (sym e ∙ good_read t)

  -- what is read is a good file's words
  pub read_good : (file list : List ℕ) → table_words names last file ≡ words list → (t : TableFile names last file) × (flat t.rows ≡ list)
  read_good file list e = by (eqb (alike names file) (length names)) refl
    where
      by : (y : Bool) → eqb (alike names file) (length names) ≡ y → (t : TableFile names last file) × (flat t.rows ≡ list)
      by true p =
          let all : alike names file ≡ length names = eqb-true (alike names file) (length names) p in
          let w = (sound last (drop (length names) file) start_scan (length names) list (omega arith) (λ v e. cc) (sym (names_read file all) ∙ e)).first refl refl in
          (record { rows = w.rows; formed = w.formed; text = alike_all names file all ∙ ap (λ (z : List ℕ). names ++ z) w.same }, sym w.all)
      by false p = absurd (stopped_words (sym (names_stop file (eqb-false (alike names file) (length names) p)) ∙ e))

  -- refused in the line of names
  names_refused : (file : List ℕ) → (alike names file ≡ length names → ⊥) → RefusedAt (TableFile names last) file (alike names file)
  names_refused file f =
      let n : ℕ = alike names file in
      let m = alike_most names file in
      record {
        within = m.1;
        viable = (drop n names, record { rows = []; formed = tt; text = alike_taken names file ∙ sym (append-nil names) ∙ ap (λ (z : List ℕ). names ++ z) (unfold lines in refl) });
        no_further = λ l rest.
            let same : alike names (take (suc n) file ++ rest) ≡ n = alike_stops names file rest (omega (arith, m.0, f)) l in
            not_good (names_stop (take (suc n) file ++ rest) (λ z. f (sym same ∙ z)));
        not_good = not_good (names_stop file f);
      }

  -- refused in a line of numbers
  lines_refused : (file : List ℕ) (n : ℕ) → alike names file ≡ length names → table_words names last file ≡ stopped n → RefusedAt (TableFile names last) file n
  lines_refused file n all e = record {
    within = omega (arith, s.most, ap length (alike_all names file all) ∙ length-append names tail);
    viable = (s.viable.0, good s.viable.0 s.viable.1 s.viable.2);
    no_further = λ l rest t.
        let further : scanned last start_scan k (take (suc n - k) tail ++ rest) ≡ stopped n = s.further (omega (arith, l, ap length (alike_all names file all) ∙ length-append names tail)) rest in
        not_good (joined_read (take (suc n - k) tail ++ rest) ∙ further)
        (subst (TableFile names last) (ap (λ (z : List ℕ). z ++ rest) (split (suc n) (omega (arith, s.least))) ∙ append_assoc names (take (suc n - k) tail) rest) t);
    not_good = not_good e;
  }
    where
      k : ℕ
      k = length names

      tail : List ℕ
      tail = drop (length names) file

      s : Stops last tail start_scan k n
      s = stopping last tail start_scan k n (omega arith) (sym (names_read file all) ∙ e)

      split : (m : ℕ) → k ≤ m → take m file ≡ names ++ take (m - k) tail
      split m h =
          let whole : k + (m - k) ≡ m = omega (arith, h) in
          let first : take k file ≡ names = ap (take k) (alike_all names file all) ∙ take_at names tail k refl in
          sym (ap (λ (z : ℕ). take z file) whole) ∙ (take-add k (m - k) file ∙ ap (λ (z : List ℕ). z ++ take (m - k) tail) first)

      joined_read : (text : List ℕ) → table_words names last (names ++ text) ≡ scanned last start_scan k text
      joined_read text =
          names_read (names ++ text) (names_there names text) ∙ ap (scanned last start_scan k) (drop_at names text k refl)

      good : (rest list : List ℕ) → scanned last start_scan k (take (n - k) tail ++ rest) ≡ words list → TableFile names last (take n file ++ rest)
      good rest list q =
          subst (TableFile names last) (sym (ap (λ (z : List ℕ). z ++ rest) (split n s.least) ∙ append_assoc names (take (n - k) tail) rest))
          (read_good (names ++ (take (n - k) tail ++ rest)) list (joined_read (take (n - k) tail ++ rest) ∙ q)).0

  -- the place of 50
  pub refused_first : (file : List ℕ) (n : ℕ) → table_words names last file ≡ stopped n → RefusedAt (TableFile names last) file n
  refused_first file n e = by (eqb (alike names file) (length names)) refl
    where
      by : (y : Bool) → eqb (alike names file) (length names) ≡ y → RefusedAt (TableFile names last) file n
      by true p = lines_refused file n (eqb-true (alike names file) (length names) p) e
      by false p =
          let f : alike names file ≡ length names → ⊥ = eqb-false (alike names file) (length names) p in
          subst (RefusedAt (TableFile names last) file) (stopped_at (sym (names_stop file f) ∙ e)) (names_refused file f)
