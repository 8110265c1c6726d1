-- A file of any rows, with numbers of 32 bits, is read as their words: so what treebuild prints behind its first two lines is read back.
use mathlib.Core.Path.{◌≡◌, refl, ap, ◌∙◌}
use Prim.Native.Nat.{ℕ, zero, suc, ◌+◌, ◌-◌, ◌*◌, ◌/◌, ◌%◌, ◌^◌, ◌<◌, ◌≤◌}
use native.Mathlib.Omega.{arith}
use native.Mathlib.Numerals.{add-one}
use mathlib.Core.List.{List, [], ◌∷◌, ◌++◌, append_assoc}
use mathlib.Core.Bool.{Bool, true, false}
use lib.ListN.{length, length-append}
use lib.Seq.{drop_at}
use lib.Dec.{eqb, ltb}
use borrow.Author.Tests.{eq-eqb, ne_eqb, le-leb, lt-ltb, ltb-true, ltb-false}
use Rattle.std.specs.Prelude.{Option, None, Some}
use Rattle.text.specs.Form.{ending}
use Rattle.text.specs.Reading.{is_digit, may_follow}
use Rattle.text.specs.Decimal.{decimal}
use Rattle.text.specs.Line.{line, lines, flat}
use Rattle.text.specs.File.{Words, Rows}
use Rattle.text.specs.Printed.{tree_names}
use Rattle.text.proofs.DecimalLaws.{decimal_small, decimal_more}
use Rattle.tree_check.specs.declared.scan.Scan.{Scan}
use Rattle.tree_check.specs.declared.scan.Step.{Step}
use Rattle.tree_check.specs.Scan.{stopped, words, next_column, going_on, gone_by, first_digit, in_number, stepped, with_words, ended_word, scanned, start_scan, alike, table_words, file_words}
use Rattle.tree_check.proofs.FileLaws.{with_none, with_more}

module _ (last : ℕ) where
  abbrev pub opened : (column value : ℕ) → Scan
  opened column value = record { column = column; number = Some value }

  abbrev pub closed : (column : ℕ) → Scan
  closed column = record { column = next_column last column; number = None }

  -- ---- one byte

  digit_shown : (d : ℕ) → d < 10 → is_digit (48 + d) ≡ true
  unfolding is_digit
  digit_shown d h = rw (le-leb 48 (48 + d) (omega arith), le-leb (48 + d) 57 (omega arith))

  first_digit_lem : (scan : Scan) (d : ℕ) → scan.number ≡ None → d < 10 → stepped last scan (48 + d) ≡ Some (going_on scan.column d)
  unfolding stepped first_digit
  first_digit_lem scan d e h = let z : 48 + d - 48 ≡ d = omega arith in rw (e, digit_shown d h, z)

  -- a digit is no end
  not_ending : (column d : ℕ) → eqb (48 + d) (ending (eqb column last)) ≡ false
  not_ending column d = by (eqb column last)
    where
      by : (y : Bool) → eqb (48 + d) (ending y) ≡ false
      by true = ne_eqb (48 + d) 10 (λ z. omega arith)
      by false = ne_eqb (48 + d) 32 (λ z. omega arith)

  next_digit : (column value d : ℕ) → 0 < value → d < 10 → value * 10 + d < 2 ^ 32 → stepped last (opened column value) (48 + d) ≡ Some (going_on column (value * 10 + d))
  unfolding stepped in_number may_follow
  next_digit column value d led h fits =
      let z : 48 + d - 48 ≡ d = omega arith in
      rw (not_ending column d, digit_shown d h, lt-ltb 0 value led, z, lt-ltb (value * 10 + d) (2 ^ 32) fits)

  number_end : (column value : ℕ) → stepped last (opened column value) (ending (eqb column last)) ≡ Some (gone_by last column value)
  unfolding stepped in_number
  number_end column value = rw (eq-eqb (ending (eqb column last)) (ending (eqb column last)) refl)

  -- ---- a number

  pub goes_on : (scan : Scan) (step : Step) (at byte : ℕ) (rest : List ℕ) → stepped last scan byte ≡ Some step
      → scanned last scan at (byte ∷ rest) ≡ with_words (ended_word step) (scanned last step.scan (suc at) rest)
  unfolding scanned
  goes_on scan step at byte rest e =
      ap (λ (o : Option Step). elim o [ None ↦ stopped at | Some step ↦ with_words (ended_word step) (scanned last step.scan (suc at) rest) ]) e

  module _ (scan : Scan) (outside : scan.number ≡ None) (at : ℕ) where
    -- the digits of n, whatever comes after them
    abbrev DigitsRead : ℕ → Type 0
    DigitsRead n = (rest : List ℕ) → scanned last scan at (decimal n ++ rest) ≡ scanned last (opened scan.column n) (at + length (decimal n)) rest

    one_digit_read : (n : ℕ) → n < 10 → DigitsRead n
    one_digit_read n h rest =
        rw (decimal_small n h, add-one at)
        (goes_on scan (going_on scan.column n) at (48 + n) rest (first_digit_lem scan n outside h) ∙ with_none (scanned last (opened scan.column n) (suc at) rest))

    one_more_read : (n : ℕ) → 10 ≤ n → n < 2 ^ 32 → DigitsRead (n / 10) → DigitsRead n
    one_more_read n h l before rest =
        let v : ℕ = n / 10 in
        let d : ℕ = n % 10 in
        let is : v * 10 + d ≡ n = omega arith in
        let place : at + (length (decimal v) + 1) ≡ suc (at + length (decimal v)) = omega arith in
        let step : stepped last (opened scan.column v) (48 + d) ≡ Some (going_on scan.column (v * 10 + d)) = next_digit scan.column v d (omega arith) (omega arith) (omega arith) in
        rw (decimal_more n h, append_assoc (decimal v) ((48 + d) ∷ []) rest, length-append (decimal v) ((48 + d) ∷ []), place)
        (before ((48 + d) ∷ rest)
        ∙ (goes_on (opened scan.column v) (going_on scan.column (v * 10 + d)) (at + length (decimal v)) (48 + d) rest step
        ∙ (with_none (scanned last (opened scan.column (v * 10 + d)) (suc (at + length (decimal v))) rest)
        ∙ ap (λ (k : ℕ). scanned last (opened scan.column k) (suc (at + length (decimal v))) rest) is)))

    digits_read : (steps n : ℕ) → n ≤ steps → n < 2 ^ 32 → DigitsRead n
    digits_read zero n h l = one_digit_read n (omega arith)
    digits_read (suc steps) n h l = by (ltb n 10) refl (λ q. digits_read steps (n / 10) q (omega arith))
      where
        by : (y : Bool) → ltb n 10 ≡ y → (n / 10 ≤ steps → DigitsRead (n / 10)) → DigitsRead n
        by true e on = one_digit_read n (ltb-true n 10 e)
        by false e on = let large : 10 ≤ n = ltb-false n 10 e in one_more_read n large l (on (omega arith))

    number_read : (n : ℕ) → n < 2 ^ 32 → (rest : List ℕ)
        → scanned last scan at (decimal n ++ (ending (eqb scan.column last) ∷ rest)) ≡ with_words (n ∷ []) (scanned last (closed scan.column) (suc (at + length (decimal n))) rest)
    number_read n l rest =
        digits_read n n (omega arith) l (ending (eqb scan.column last) ∷ rest)
        ∙ goes_on (opened scan.column n) (gone_by last scan.column n) (at + length (decimal n)) (ending (eqb scan.column last)) rest (number_end scan.column n)

  -- ---- a line, and lines

  -- the numbers of a line from a column on, and what comes after it
  pub record LineRead (scan : Scan) (at : ℕ) (numbers rest : List ℕ) : Type 0 where
    pub next : Scan
    pub place : ℕ
    pub outside : next.number ≡ None
    pub first : next.column ≡ 0
    pub same : scanned last scan at (line numbers ++ rest) ≡ with_words numbers (scanned last next place rest)

  pub line_one : (n : ℕ) (rest : List ℕ) → line (n ∷ []) ++ rest ≡ decimal n ++ (10 ∷ rest)
  unfolding line
  line_one n rest = append_assoc (decimal n) (10 ∷ []) rest

  pub line_more : (n m : ℕ) (numbers rest : List ℕ) → line (n ∷ m ∷ numbers) ++ rest ≡ decimal n ++ (32 ∷ (line (m ∷ numbers) ++ rest))
  unfolding line
  line_more n m numbers rest = append_assoc (decimal n) (32 ∷ line (m ∷ numbers)) rest

  pub last_ending : (column : ℕ) → column ≡ last → 10 ≡ ending (eqb column last)
  last_ending column e = rw (eq-eqb column last e)

  pub other_ending : (column : ℕ) → (column ≡ last → ⊥) → 32 ≡ ending (eqb column last)
  other_ending column f = rw (ne_eqb column last f)

  pub first_column : (column : ℕ) → column ≡ last → next_column last column ≡ 0
  first_column column e = rw (eq-eqb column last e)

  pub later_column : (column : ℕ) → (column ≡ last → ⊥) → next_column last column ≡ column + 1
  later_column column f = rw (ne_eqb column last f)

  pub line_read : (numbers : List ℕ) (n : ℕ) (scan : Scan) (at : ℕ) (rest : List ℕ) → Words (n ∷ numbers) → scan.number ≡ None → scan.column + suc (length numbers) ≡ suc last
      → LineRead scan at (n ∷ numbers) rest
  line_read [] n scan at rest w outside e =
      let at_last : scan.column ≡ last = omega arith in
      let text : line (n ∷ []) ++ rest ≡ decimal n ++ (ending (eqb scan.column last) ∷ rest) =
      line_one n rest ∙ ap (λ (b : ℕ). decimal n ++ (b ∷ rest)) (last_ending scan.column at_last) in
      record {
        next = closed scan.column;
        place = suc (at + length (decimal n));
        outside = refl;
        first = first_column scan.column at_last;
        same = ap (scanned last scan at) text ∙ number_read scan outside at n w.0 rest;
      }
  line_read (m ∷ numbers) n scan at rest w outside e =
      let within : scan.column ≡ last → ⊥ = λ z. omega arith in
      let column : next_column last scan.column ≡ scan.column + 1 = later_column scan.column within in
      let text : line (n ∷ m ∷ numbers) ++ rest ≡ decimal n ++ (ending (eqb scan.column last) ∷ (line (m ∷ numbers) ++ rest)) =
      line_more n m numbers rest ∙ ap (λ (b : ℕ). decimal n ++ (b ∷ (line (m ∷ numbers) ++ rest))) (other_ending scan.column within) in
      let more : LineRead (closed scan.column) (suc (at + length (decimal n))) (m ∷ numbers) rest =
      line_read numbers m (closed scan.column) (suc (at + length (decimal n))) rest w.1 refl (omega (arith, column)) in
      record {
        next = more.next;
        place = more.place;
        outside = more.outside;
        first = more.first;
        same = ap (scanned last scan at) text
            ∙ (number_read scan outside at n w.0 (line (m ∷ numbers) ++ rest)
            ∙ (ap (with_words (n ∷ [])) more.same ∙ with_more (n ∷ []) (m ∷ numbers) (scanned last more.next more.place rest)));
      }

  lines_read : (rows : List (List ℕ)) → Rows (suc last) rows → (scan : Scan) (at : ℕ) → scan.number ≡ None → scan.column ≡ 0 → scanned last scan at (lines rows) ≡ words (flat rows)
  unfolding lines flat
  lines_read [] w scan at outside first = nothing_left
    where
      nothing_left : scanned last scan at [] ≡ words []
      nothing_left = unfold scanned in rw (outside, first)
  lines_read ([] ∷ rows) w scan at outside first = absurd (omega (arith, w.0.long))
  lines_read ((n ∷ numbers) ∷ rows) w scan at outside first =
      let l : LineRead scan at (n ∷ numbers) (lines rows) = line_read numbers n scan at (lines rows) w.0.words outside (omega (arith, first, w.0.long)) in
      l.same ∙ ap (with_words (n ∷ numbers)) (lines_read rows w.1 l.next l.place l.outside l.first)

-- a line of names is there, and the rest comes after it
pub names_there : (names rest : List ℕ) → alike names (names ++ rest) ≡ length names
unfolding alike
names_there [] rest = refl
names_there (name ∷ names) rest = rw (eq-eqb name name refl, names_there names rest)

-- the file of a table with these names
pub table_back : (names : List ℕ) (last : ℕ) (rows : List (List ℕ)) → Rows (suc last) rows → table_words names last (names ++ lines rows) ≡ words (flat rows)
unfolding table_words
table_back names last rows w =
    rw (table_words, names_there names (lines rows), eq-eqb (length names) (length names) refl, drop_at names (lines rows) (length names) refl)
    (lines_read last rows w start_scan (length names) refl refl)

pub read_back : (rows : List (List ℕ)) → Rows 6 rows → file_words (tree_names ++ lines rows) ≡ words (flat rows)
read_back rows w = table_back tree_names 5 rows w
