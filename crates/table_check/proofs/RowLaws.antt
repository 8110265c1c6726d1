-- What the code finds in rows: the first bad column of a row, and the verdict on rows one after the other. One set of laws for the five tables.
use Prim.Native.Nat.{ℕ, suc, ◌+◌, ◌*◌, ◌-◌, ◌<◌, ◌≤◌}
use mathlib.Core.Path.{◌≡◌, refl, sym, ap, ◌∙◌}
use mathlib.Core.List.{List, [], ◌∷◌, ◌++◌}
use mathlib.Core.Bool.{Bool, true, false}
use native.Mathlib.Omega.{arith}
use borrow.Author.Tests.{lt-ltb, le-ltb}
use native.Mathlib.Nat.{one-mul, add-mul}
use native.Mathlib.Numerals.{add-one}
use lib.ListN.{length, get_or, drop, drop_of_length-le}
use Rattle.std.proofs.Common.{drop-cons}
use Rattle.std.proofs.lemmas.Option.{none-some}
use Rattle.std.specs.Prelude.{Option, Some, None}
use Rattle.std.specs.Option.{option_or}
use Rattle.table.specs.Words.{word}
use Rattle.table.specs.Check.{Verdict, accepted, refused, Rule, fits, row_verdict, rows_verdict}
use Rattle.table.specs.Answer.{limit}
use Rattle.table.proofs.RuleLaws.{fits_limit, below_fits, not_below_fits}
use Rattle.table.proofs.RowLaws.{on, off, one}
use Rattle.table_check.specs.FoundBlocks.{limits_from, first_bad, first_not_below, Reads, Finds}

-- ---- a row

pub all_fit : (words : ℕ → ℕ) (column : ℕ) → None ≡ first_bad words column []
unfolding first_bad
all_fit words column = refl

-- what the code finds at a column: the word, its limit, and so the first bad column from there on
module _ (words : ℕ → ℕ) (column : ℕ) (rule : Rule) (rules : List Rule) {word below : ℕ} (read : word ≡ words column) (bound : below ≡ limit rule word) where
  pub passed : {bad : Option ℕ} → word < below → bad ≡ first_bad words (suc column) rules → bad ≡ first_bad words column (rule ∷ rules)
  unfolding first_bad
  passed l h = rw (rw read at (below_fits rule word (rw (← bound) l)), first_bad) h

  pub failed : below ≤ word → Some column ≡ first_bad words column (rule ∷ rules)
  unfolding first_bad
  failed l = rw (rw read at (not_below_fits rule word (rw (← bound) l)), first_bad)

-- the same by limits alone, of the place i of the limits
module _ {reads : (column word : ℕ) → Type 0} (words : ℕ → ℕ) (first : ℕ) (limits : List ℕ) (read : Reads reads (first + length limits) words) (i : ℕ) (inside : i < length limits)
    {word : ℕ} (found : reads (first + i) word) where
  is_word : word ≡ words (first + i)
  is_word = read.is (first + i) word (omega arith) found

  pub is_below : word < get_or limits i 0 → first_not_below words (first + i) (drop i limits) ≡ first_not_below words (first + (i + 1)) (drop (i + 1) limits)
  unfolding first_not_below
  is_below l =
      let e : suc (first + i) ≡ first + (i + 1) = omega arith in
      rw (drop-cons limits i 0, lt-ltb (words (first + i)) (get_or limits i 0) (rw (← is_word) l), e, add-one i, first_not_below)

  pub is_not_below : get_or limits i 0 ≤ word → first_not_below words (first + i) (drop i limits) ≡ Some (first + i)
  unfolding first_not_below
  is_not_below l = rw (drop-cons limits i 0, le-ltb (words (first + i)) (get_or limits i 0) (rw (← is_word) l), first_not_below)

pub all_below : (words : ℕ → ℕ) (column : ℕ) (limits : List ℕ) (i : ℕ) → length limits ≤ i → first_not_below words column (drop i limits) ≡ None
unfolding first_not_below
all_below words column limits i h = rw (drop_of_length-le limits h)

bad_limits : (words : ℕ → ℕ) (column : ℕ) (rules : List Rule) → first_bad words column rules ≡ first_not_below words column (limits_from words column rules)
unfolding first_bad first_not_below
bad_limits words column [] = refl
bad_limits words column (rule ∷ rules) = go _ _ (fits_limit rule (words column)) _ _ (bad_limits words (suc column) rules)
  where
    go : (a b : Bool) → a ≡ b → (m n : Option ℕ) → m ≡ n → ◌≡◌ {A = Option ℕ} (elim a [ true ↦ m | false ↦ Some column ]) (elim b [ true ↦ n | false ↦ Some column ])
    go true true e m n f = f
    go true false e m n f = absurd (let z : ◌≡◌ {A = ℕ} 0 1 = cc in omega arith)
    go false true e m n f = absurd (let z : ◌≡◌ {A = ℕ} 0 1 = cc in omega arith)
    go false false e m n f = refl

-- rules by their limits
pub in_limits : (words : ℕ → ℕ) (column : ℕ) (rules : List Rule) (limits : List ℕ) {bad : Option ℕ} → bad ≡ first_not_below words column limits → limits ≡ limits_from words column rules
    → bad ≡ first_bad words column rules
in_limits words column rules limits h e = rw (bad_limits words column rules, ← e) h

-- rules after others: the first bad column is among the former, or else among the latter
bad_append : (words : ℕ → ℕ) (column : ℕ) (rules rest : List Rule) → first_bad words column (rules ++ rest) ≡ option_or (first_bad words column rules) (first_bad words (column + length rules) rest)
unfolding first_bad
bad_append words column [] rest = let e : column + 0 ≡ column = omega arith in rw e
bad_append words column (rule ∷ rules) rest = go (fits rule (words column)) (bad_append words (suc column) rules rest)
  where
    go : (b : Bool) → first_bad words (suc column) (rules ++ rest) ≡ option_or (first_bad words (suc column) rules) (first_bad words (suc column + length rules) rest)
        → ◌≡◌ {A = Option ℕ} (elim b [ true ↦ first_bad words (suc column) (rules ++ rest) | false ↦ Some column ])
        (option_or (elim b [ true ↦ first_bad words (suc column) rules | false ↦ Some column ]) (first_bad words (column + suc (length rules)) rest))
    go true ih = let e : column + suc (length rules) ≡ suc column + length rules = omega arith in rw e ih
    go false ih = refl

-- the same of what the code finds for the former rules
module _ (words : ℕ → ℕ) (column : ℕ) (rules rest : List Rule) where
  pub within : {bad : ℕ} → Some bad ≡ first_bad words column rules → Some bad ≡ first_bad words column (rules ++ rest)
  within e = rw (bad_append words column rules rest, ← e)

  pub beyond : {next : Option ℕ} → None ≡ first_bad words column rules → next ≡ first_bad words (column + length rules) rest → next ≡ first_bad words column (rules ++ rest)
  beyond e f = rw (bad_append words column rules rest, ← e) f

-- a bad column is one of the row's
pub bad_less : (words : ℕ → ℕ) (column : ℕ) (rules : List Rule) {bad : ℕ} → Some bad ≡ first_bad words column rules → bad < column + length rules
unfolding first_bad
bad_less words column [] e = absurd (none-some _ (sym e))
bad_less words column (rule ∷ rules) {bad} e = go (fits rule (words column)) e (bad_less words (suc column) rules)
  where
    go : (b : Bool) → Some bad ≡ elim b [ true ↦ first_bad words (suc column) rules | false ↦ Some column ]
        → (Some bad ≡ first_bad words (suc column) rules → bad < suc column + length rules) → bad < column + suc (length rules)
    go true e ih = let h = ih e in omega arith
    go false e ih = let same : bad ≡ column = cc in omega arith

-- a row of one word
pub one_word : (ws : List ℕ) (begin row : ℕ) (rule : Rule) → first_bad (λ _. word ws (begin + row)) 0 (rule ∷ []) ≡ first_bad (λ column. word ws (begin + row * 1 + column)) 0 (rule ∷ [])
unfolding first_bad
one_word ws begin row rule = let e : begin + row * 1 + 0 ≡ begin + row = omega arith in rw (e, first_bad)

module _ (ws : List ℕ) (at : ℕ) where
  abbrev columns : ℕ → ℕ
  columns column = word ws (at + column)

  -- a row's verdict is that on its first bad column
  abbrev verdict_on : Option ℕ → Verdict
  verdict_on None = accepted
  verdict_on (Some column) = refused 4 (at + column)

  pub row_found : (column : ℕ) (rules : List Rule) → row_verdict ws (at + column) rules ≡ verdict_on (first_bad columns column rules)
  unfolding first_bad row_verdict
  row_found column [] = refl
  row_found column (rule ∷ rules) = go (fits rule (columns column)) (row_found (suc column) rules)
    where
      go : (b : Bool) → row_verdict ws (at + suc column) rules ≡ verdict_on (first_bad columns (suc column) rules)
          → elim b [ true ↦ row_verdict ws (suc (at + column)) rules | false ↦ refused 4 (at + column) ]
          ≡ verdict_on (elim b [ true ↦ first_bad columns (suc column) rules | false ↦ Some column ])
      go true ih = let e : suc (at + column) ≡ at + suc column = omega arith in rw e ih
      go false ih = refl

-- ---- rows one after the other

-- a loop over the rows of a table, all of one width: what is left from a row on gives what all give
module _ {finds : (row : ℕ) → Option ℕ → Type 0} (ws : List ℕ) (rules : ℕ → List Rule) (begin width rows : ℕ) (f : Finds finds ws begin width rows rules) where
  abbrev pub left : ℕ → Verdict
  left row = rows_verdict ws rules (begin + row * width) row (rows - row)

  pub rows_last : (row : ℕ) → rows ≤ row → left row ≡ accepted
  unfolding rows_verdict
  rows_last row h = let f : rows - row ≡ 0 = omega arith in rw f

  module _ (row : ℕ) (inside : row < rows) where
    -- of a row, the closure finds the first bad column
    verdict_is : {bad : Option ℕ} → finds row bad → row_verdict ws (begin + row * width) (rules row) ≡ verdict_on ws (begin + row * width) bad
    verdict_is found =
        let at_row : begin + row * width + 0 ≡ begin + row * width = omega arith in
        rw at_row at (row_found ws (begin + row * width) 0 (rules row)) ∙ ap (verdict_on ws (begin + row * width)) (sym (f.is row _ inside found))

    pub rows_on : finds row None → left row ≡ left (row + 1)
    rows_on found =
        let e : begin + (row + 1) * width ≡ begin + row * width + width = omega (arith, add-mul row 1 width, one-mul width) in
        let g : rows - row - 1 ≡ rows - (row + 1) = omega arith in
        one ws rules width f.wide _ row (omega arith) ∙ (on _ _ (verdict_is found) ∙ rw (e, g, add-one row))

    pub rows_off : {bad : ℕ} → finds row (Some bad) → left row ≡ refused 4 (begin + row * width + bad)
    rows_off found = one ws rules width f.wide _ row (omega arith) ∙ off _ _ (verdict_is found)
