-- A tree whose columns are in range has rows in range, where it has at most 2,048 of them: a count is below the number of rows.
use mathlib.Core.Path.{◌≡◌, refl}
use Prim.Native.Nat.{ℕ, suc, ◌+◌, ◌<◌, ◌≤◌}
use native.Mathlib.Omega.{arith}
use mathlib.Core.List.{List, [], ◌∷◌}
use mathlib.Core.Option.{Option, none, some}
use mathlib.Core.Bool.{Bool, true, false, ◌&&◌, ◌||◌}
use mathlib.Core.Logic.{◌⊎◌, inl, inr}
use lib.ListN.{length}
use lib.Dec.{eqb, ltb}
use borrow.Author.Tests.{eq-eqb, lt-ltb, le-leb}
use Rattle.table.specs.Words.{largest}
use Rattle.table.specs.Check.{row_or_none, fits}
use Rattle.table.specs.Check as check
use Rattle.definition.specs.Tree.{Kind, implicit, labeled, unlabeled, Value, PLAIN, LOAD, UNDEF, SEQ, LOGICAL, COND, OPTIONAL, Instructions, no_instructions}
use Rattle.definition.specs.Tree.{instruction, Statement, INSTR, IF, SWITCH, DOWHILE, WHILE, FOR, FOROF, FORIN, LABEL, TRY, SCOPE, RETURN, THROW, BREAK}
use Rattle.definition.specs.Tree.{CONTINUE, Statements, done, ◌▸◌, Cases, no_cases, CASE, Row, row, or_none, kind_number, update_present, count_instructions}
use Rattle.definition.specs.Tree.{count_statements, count_cases, value_rows, instructions_rows, update_rows, statement_rows, statements_rows, block_rows, cases_rows}
use Rattle.definition.specs.Tree.{rows}
use Rattle.table.specs.declared.columns.Span.{Span}
use Rattle.definition.specs.Tree.{instr_row, for_of_row, for_in_row}
use Rattle.definition.specs.Reading.{WellFormedStatement, WellFormed, WellFormedCases}
use Rattle.tree_grammar.specs.Ranges.{row_rules, fits_column, in_range, all_in_range}

-- both ends of a span
abbrev pub Spanned : Span → Type 0
Spanned s = (s.from ≤ 65535) × (s.to ≤ 65535)

-- ---- a tree whose columns are in range

abbrev mutual
  pub RangedValue : Value → Type 0
  RangedValue (PLAIN r) = r < 4096
  RangedValue (LOAD p) = p < 4096
  RangedValue (UNDEF s) = Spanned s
  RangedValue (SEQ is id v) = RangedInstructions is × (id ≤ 65535) × RangedValue v
  RangedValue (LOGICAL o l r) = (o ≤ 2) × RangedValue l × RangedValue r
  RangedValue (COND x y z) = RangedValue x × RangedValue y × RangedValue z
  RangedValue (OPTIONAL f v) = (f ≤ 1) × RangedValue v

  pub RangedInstructions : Instructions → Type 0
  RangedInstructions no_instructions = Unit {0}
  RangedInstructions (instruction id l s v rest) = (id ≤ 65535) × (l < 4096) × Spanned s × RangedValue v × RangedInstructions rest

abbrev pub Below : ℕ → Option ℕ → Type 0
Below n none = Unit {0}
Below n (some b) = b < n

abbrev pub RangedUpdate : Option Value → Type 0
RangedUpdate none = Unit {0}
RangedUpdate (some v) = RangedValue v

abbrev mutual
  pub RangedStatement : Statement → Type 0
  RangedStatement (INSTR id l s v) = (id ≤ 65535) × (l < 4096) × Spanned s × RangedValue v
  RangedStatement (IF x id g c p a) = (x < 4096) × (id ≤ 65535) × Below 1024 g × RangedStatements c × RangedStatements a
  RangedStatement (SWITCH x id g k) = (x < 4096) × (id ≤ 65535) × Below 1024 g × RangedCases k
  RangedStatement (DOWHILE id g b x) = (id ≤ 65535) × Below 1024 g × RangedStatements b × RangedValue x
  RangedStatement (WHILE id g x b) = (id ≤ 65535) × Below 1024 g × RangedValue x × RangedStatements b
  RangedStatement (FOR id g i x u b) = (id ≤ 65535) × Below 1024 g × RangedValue i × RangedValue x × RangedUpdate u × RangedStatements b
  RangedStatement (FOROF id g s i x b) = (id ≤ 65535) × Below 1024 g × Spanned s × RangedValue i × RangedValue x × RangedStatements b
  RangedStatement (FORIN id g s i b) = (id ≤ 65535) × Below 1024 g × Spanned s × RangedValue i × RangedStatements b
  RangedStatement (LABEL id g b) = (id ≤ 65535) × Below 1024 g × RangedStatements b
  RangedStatement (TRY id g n b h) = (id ≤ 65535) × Below 1024 g × Below 4096 n × RangedStatements b × RangedStatements h
  RangedStatement (SCOPE p n b) = (n ≤ 65535) × RangedStatements b
  RangedStatement (RETURN v id) = (v < 4096) × (id ≤ 65535)
  RangedStatement (THROW v id) = (v < 4096) × (id ≤ 65535)
  RangedStatement (BREAK b id k n) = (b < 1024) × (id ≤ 65535)
  RangedStatement (CONTINUE b id k n) = (b < 1024) × (id ≤ 65535)

  pub RangedStatements : Statements → Type 0
  RangedStatements done = Unit {0}
  RangedStatements (s ▸ rest) = RangedStatement s × RangedStatements rest

  pub RangedCases : Cases → Type 0
  RangedCases no_cases = Unit {0}
  RangedCases (CASE x b rest) = ((x ≡ 65535) ⊎ (x < 4096)) × RangedStatements b × RangedCases rest

-- ---- a part has rows

mutual
  value_long : (v : Value) (k : List Row) → length k < length (value_rows v k)
  value_long (PLAIN r) k = omega arith
  value_long (LOAD p) k = omega arith
  value_long (UNDEF s) k = omega arith
  value_long (SEQ is id v) k =
      omega (arith, value_long v (row 5 (count_instructions is) id 0 0 0 ∷ k), instructions_long is (value_rows v (row 5 (count_instructions is) id 0 0 0 ∷ k)))
  value_long (LOGICAL o l r) k = omega (arith, value_long r (row 6 o 0 0 0 0 ∷ k), value_long l (value_rows r (row 6 o 0 0 0 0 ∷ k)))
  value_long (COND x y z) k =
      omega (arith, value_long z (row 7 0 0 0 0 0 ∷ k), value_long y (value_rows z (row 7 0 0 0 0 0 ∷ k)), value_long x (value_rows y (value_rows z (row 7 0 0 0 0 0 ∷ k))))
  value_long (OPTIONAL f v) k = omega (arith, value_long v (row 8 f 0 0 0 0 ∷ k))

  instructions_long : (is : Instructions) (k : List Row) → count_instructions is + length k ≤ length (instructions_rows is k)
  instructions_long no_instructions k = omega arith
  instructions_long (instruction id l s v rest) k = omega (arith, instructions_long rest k, value_long v (instr_row id l s ∷ instructions_rows rest k))

update_long : (u : Option Value) (k : List Row) → length k ≤ length (update_rows u k)
update_long none k = omega arith
update_long (some v) k = omega (arith, value_long v k)

mutual
  statement_long : (s : Statement) (k : List Row) → length k < length (statement_rows s k)
  statement_long (INSTR id l s v) k = omega (arith, value_long v (instr_row id l s ∷ k))
  statement_long (IF x id g c true a) k = omega (arith, block_long a (row 10 x 1 id (or_none g) 0 ∷ k), block_long c (block_rows a (row 10 x 1 id (or_none g) 0 ∷ k)))
  statement_long (IF x id g c false a) k = omega (arith, block_long c (row 10 x 0 id (or_none g) 0 ∷ k))
  statement_long (SWITCH x id g cs) k = omega (arith, cases_long cs (row 12 x (count_cases cs) id (or_none g) 0 ∷ k))
  statement_long (DOWHILE id g b x) k = omega (arith, value_long x (row 13 id (or_none g) 0 0 0 ∷ k), block_long b (value_rows x (row 13 id (or_none g) 0 0 0 ∷ k)))
  statement_long (WHILE id g x b) k = omega (arith, block_long b (row 14 id (or_none g) 0 0 0 ∷ k), value_long x (block_rows b (row 14 id (or_none g) 0 0 0 ∷ k)))
  statement_long (FOR id g i x u b) k =
      let r : Row = row 15 id (or_none g) (update_present u) 0 0 in
      omega (arith, block_long b (r ∷ k), update_long u (block_rows b (r ∷ k)), value_long x (update_rows u (block_rows b (r ∷ k))), value_long i (value_rows x (update_rows u (block_rows b (r ∷ k)))))
  statement_long (FOROF id g s i x b) k =
      let r : Row = for_of_row id (or_none g) s in
      omega (arith, block_long b (r ∷ k), value_long x (block_rows b (r ∷ k)), value_long i (value_rows x (block_rows b (r ∷ k))))
  statement_long (FORIN id g s i b) k = omega (arith, block_long b (for_in_row id (or_none g) s ∷ k), value_long i (block_rows b (for_in_row id (or_none g) s ∷ k)))
  statement_long (LABEL id g b) k = omega (arith, block_long b (row 18 id (or_none g) 0 0 0 ∷ k))
  statement_long (TRY id g n b h) k = omega (arith, block_long h (row 19 id (or_none g) (or_none n) 0 0 ∷ k), block_long b (block_rows h (row 19 id (or_none g) (or_none n) 0 0 ∷ k)))
  statement_long (SCOPE true n b) k = omega (arith, block_long b (row 21 n 0 0 0 0 ∷ k))
  statement_long (SCOPE false n b) k = omega (arith, block_long b (row 20 n 0 0 0 0 ∷ k))
  statement_long (RETURN v id) k = omega arith
  statement_long (THROW v id) k = omega arith
  statement_long (BREAK b id d n) k = omega arith
  statement_long (CONTINUE b id d n) k = omega arith

  statements_long : (s : Statements) (k : List Row) → count_statements s + length k ≤ length (statements_rows s k)
  statements_long done k = omega arith
  statements_long (s ▸ rest) k = omega (arith, statements_long rest k, statement_long s (statements_rows rest k))

  block_long : (s : Statements) (k : List Row) → length k < length (block_rows s k)
  block_long done k = omega arith
  block_long (s ▸ rest) k =
      omega (arith, statements_long rest (row 9 (suc (count_statements rest)) 0 0 0 0 ∷ k), statement_long s (statements_rows rest (row 9 (suc (count_statements rest)) 0 0 0 0 ∷ k)))

  cases_long : (c : Cases) (k : List Row) → count_cases c + length k ≤ length (cases_rows c k)
  cases_long no_cases k = omega arith
  cases_long (CASE x b rest) k = omega (arith, cases_long rest k, block_long b (row 11 x 0 0 0 0 ∷ cases_rows rest k))

-- ---- a row in range

lt : (n w : ℕ) → w < n → fits (check.row n) w ≡ true
unfolding fits
lt n w h = lt-ltb w n h

le : (n w : ℕ) → w ≤ n → fits (check.number n) w ≡ true
unfolding fits
le n w h = le-leb w n h

zero_fits : fits check.unused 0 ≡ true
unfolding fits
zero_fits = refl

or_none_lem : (n w : ℕ) → (w ≡ 65535) ⊎ (w < n) → fits (row_or_none n) w ≡ true
unfolding fits
or_none_lem n w (inl e) = rw (eq-eqb w 65535 e)
or_none_lem n w (inr l) = by (eqb w largest)
  where
    by : (y : Bool) → y || ltb w n ≡ true
    by true = refl
    by false = lt-ltb w n l

option_fits : (n : ℕ) (g : Option ℕ) → Below n g → fits (row_or_none n) (or_none g) ≡ true
option_fits n none h = or_none_lem n 65535 (inl refl)
option_fits n (some b) h = or_none_lem n b (inr h)

kind_fits : (k : Kind) → fits (check.number 2) (kind_number k) ≡ true
kind_fits implicit = le 2 0 (omega arith)
kind_fits labeled = le 2 1 (omega arith)
kind_fits unlabeled = le 2 2 (omega arith)

both : {x y : Bool} → x ≡ true → y ≡ true → x && y ≡ true
both e h = rw (e, h)

-- five columns
in5 : {v w x y z : Bool} → v ≡ true → w ≡ true → x ≡ true → y ≡ true → z ≡ true → v && (w && (x && (y && z))) ≡ true
in5 a b c d e = both a (both b (both c (both d e)))

-- a FOR's flag
update_fits : (u : Option Value) → fits (check.number 1) (update_present u) ≡ true
update_fits none = le 1 0 (omega arith)
update_fits (some v) = le 1 1 (omega arith)

abbrev Short : List Row → Type 0
Short k = length k ≤ 2048

mutual
  unfolding in_range fits_column row_rules

  value_in : (v : Value) (k : List Row) → RangedValue v → Short (value_rows v k) → all_in_range k ≡ true → all_in_range (value_rows v k) ≡ true
  value_in (PLAIN r) k h l q = both (in5 (lt 4096 r h) zero_fits zero_fits zero_fits zero_fits) q
  value_in (LOAD p) k h l q = both (in5 (lt 4096 p h) zero_fits zero_fits zero_fits zero_fits) q
  value_in (UNDEF s) k h l q = both (in5 (le 65535 s.from h.0) (le 65535 s.to h.1) zero_fits zero_fits zero_fits) q
  value_in (SEQ is id v) k h l q =
      let K : List Row = row 5 (count_instructions is) id 0 0 0 ∷ k in
      let m : count_instructions is + length (value_rows v K) ≤ length (instructions_rows is (value_rows v K)) = instructions_long is (value_rows v K) in
      let n : length K < length (value_rows v K) = value_long v K in
      instructions_in is (value_rows v K) h.0 l (value_in v K h.2 (omega arith) (both (in5 (lt 2048 (count_instructions is) (omega arith)) (le 65535 id h.1) zero_fits zero_fits zero_fits) q))
  value_in (LOGICAL o x y) k h l q =
      let K : List Row = row 6 o 0 0 0 0 ∷ k in
      value_in x (value_rows y K) h.1 l (value_in y K h.2 (omega (arith, value_long x (value_rows y K))) (both (in5 (le 2 o h.0) zero_fits zero_fits zero_fits zero_fits) q))
  value_in (COND x y z) k h l q =
      let K : List Row = row 7 0 0 0 0 0 ∷ k in
      let m : length (value_rows y (value_rows z K)) < length (value_rows x (value_rows y (value_rows z K))) = value_long x (value_rows y (value_rows z K)) in
      value_in x (value_rows y (value_rows z K)) h.0 l (value_in y (value_rows z K) h.1 (omega arith)
      (value_in z K h.2 (omega (arith, value_long y (value_rows z K))) (both (in5 zero_fits zero_fits zero_fits zero_fits zero_fits) q)))
  value_in (OPTIONAL f v) k h l q = value_in v (row 8 f 0 0 0 0 ∷ k) h.1 l (both (in5 (le 1 f h.0) zero_fits zero_fits zero_fits zero_fits) q)

  instructions_in : (is : Instructions) (k : List Row) → RangedInstructions is → Short (instructions_rows is k) → all_in_range k ≡ true → all_in_range (instructions_rows is k) ≡ true
  instructions_in no_instructions k h l q = q
  instructions_in (instruction id p s v rest) k h l q =
      let K : List Row = instructions_rows rest k in
      value_in v (instr_row id p s ∷ K) h.3 l
      (both (in5 (le 65535 id h.0) (lt 4096 p h.1) (le 65535 s.from h.2.0) (le 65535 s.to h.2.1) zero_fits)
      (instructions_in rest k h.4 (let m : length (instr_row id p s ∷ K) < length (value_rows v (instr_row id p s ∷ K)) = value_long v (instr_row id p s ∷ K) in omega arith) q))

update_in : (u : Option Value) (k : List Row) → RangedUpdate u → Short (update_rows u k) → all_in_range k ≡ true → all_in_range (update_rows u k) ≡ true
update_in none k h l q = q
update_in (some v) k h l q = value_in v k h l q

mutual
  unfolding in_range fits_column row_rules WellFormed

  statement_in : (s : Statement) (k : List Row) → WellFormedStatement s → RangedStatement s → Short (statement_rows s k) → all_in_range k ≡ true → all_in_range (statement_rows s k) ≡ true
  statement_in (INSTR id p s v) k w h l q = value_in v (instr_row id p s ∷ k) h.3 l (both (in5 (le 65535 id h.0) (lt 4096 p h.1) (le 65535 s.from h.2.0) (le 65535 s.to h.2.1) zero_fits) q)
  statement_in (IF x id g c true a) k w h l q =
      let K : List Row = row 10 x 1 id (or_none g) 0 ∷ k in
      block_in c (block_rows a K) w.1 h.3 l
      (block_in a K w.2 h.4 (omega (arith, block_long c (block_rows a K)))
      (both (in5 (lt 4096 x h.0) (le 1 1 (omega arith)) (le 65535 id h.1) (option_fits 1024 g h.2) zero_fits) q))
  statement_in (IF x id g c false a) k w h l q =
      block_in c (row 10 x 0 id (or_none g) 0 ∷ k) w.1 h.3 l (both (in5 (lt 4096 x h.0) (le 1 0 (omega arith)) (le 65535 id h.1) (option_fits 1024 g h.2) zero_fits) q)
  statement_in (SWITCH x id g cs) k w h l q =
      let K : List Row = row 12 x (count_cases cs) id (or_none g) 0 ∷ k in
      let m : count_cases cs + length K ≤ length (cases_rows cs K) = cases_long cs K in
      cases_in cs K w.1 h.3 l (both (in5 (lt 4096 x h.0) (lt 2048 (count_cases cs) (omega arith)) (le 65535 id h.1) (option_fits 1024 g h.2) zero_fits) q)
  statement_in (DOWHILE id g b x) k w h l q =
      let K : List Row = row 13 id (or_none g) 0 0 0 ∷ k in
      block_in b (value_rows x K) w.1 h.2 l
      (value_in x K h.3 (omega (arith, block_long b (value_rows x K)))
      (both (in5 (le 65535 id h.0) (option_fits 1024 g h.1) zero_fits zero_fits zero_fits) q))
  statement_in (WHILE id g x b) k w h l q =
      let K : List Row = row 14 id (or_none g) 0 0 0 ∷ k in
      value_in x (block_rows b K) h.2 l (block_in b K w.1 h.3 (omega (arith, value_long x (block_rows b K)))
      (both (in5 (le 65535 id h.0) (option_fits 1024 g h.1) zero_fits zero_fits zero_fits) q))
  statement_in (FOR id g i x u b) k w h l q =
      let K : List Row = row 15 id (or_none g) (update_present u) 0 0 ∷ k in
      let B : List Row = block_rows b K in
      let U : List Row = update_rows u B in
      let m : length (value_rows x U) < length (value_rows i (value_rows x U)) = value_long i (value_rows x U) in
      let n : length U < length (value_rows x U) = value_long x U in
      value_in i (value_rows x U) h.2 l (value_in x U h.3 (omega arith) (update_in u B h.4 (omega arith) (block_in b K w.1 h.5 (omega (arith, update_long u B))
      (both (in5 (le 65535 id h.0) (option_fits 1024 g h.1) (update_fits u) zero_fits zero_fits) q))))
  statement_in (FOROF id g s i x b) k w h l q =
      let K : List Row = for_of_row id (or_none g) s ∷ k in
      let B : List Row = block_rows b K in
      let m : length (value_rows x B) < length (value_rows i (value_rows x B)) = value_long i (value_rows x B) in
      value_in i (value_rows x B) h.3 l (value_in x B h.4 (omega arith)
      (block_in b K w.1 h.5 (omega (arith, value_long x B))
      (both (in5 (le 65535 id h.0) (option_fits 1024 g h.1) (le 65535 s.from h.2.0) (le 65535 s.to h.2.1) zero_fits) q)))
  statement_in (FORIN id g s i b) k w h l q =
      let K : List Row = for_in_row id (or_none g) s ∷ k in
      value_in i (block_rows b K) h.3 l (block_in b K w.1 h.4 (omega (arith, value_long i (block_rows b K)))
      (both (in5 (le 65535 id h.0) (option_fits 1024 g h.1) (le 65535 s.from h.2.0) (le 65535 s.to h.2.1) zero_fits) q))
  statement_in (LABEL id g b) k w h l q = block_in b (row 18 id (or_none g) 0 0 0 ∷ k) w.1 h.2 l (both (in5 (le 65535 id h.0) (option_fits 1024 g h.1) zero_fits zero_fits zero_fits) q)
  statement_in (TRY id g n b x) k w h l q =
      let K : List Row = row 19 id (or_none g) (or_none n) 0 0 ∷ k in
      block_in b (block_rows x K) w.2 h.3 l
      (block_in x K w.3 h.4 (omega (arith, block_long b (block_rows x K)))
      (both (in5 (le 65535 id h.0) (option_fits 1024 g h.1) (option_fits 4096 n h.2) zero_fits zero_fits) q))
  statement_in (SCOPE true n b) k w h l q = block_in b (row 21 n 0 0 0 0 ∷ k) w h.1 l (both (in5 (le 65535 n h.0) zero_fits zero_fits zero_fits zero_fits) q)
  statement_in (SCOPE false n b) k w h l q = block_in b (row 20 n 0 0 0 0 ∷ k) w h.1 l (both (in5 (le 65535 n h.0) zero_fits zero_fits zero_fits zero_fits) q)
  statement_in (RETURN v id) k w h l q = both (in5 (lt 4096 v h.0) (le 65535 id h.1) zero_fits zero_fits zero_fits) q
  statement_in (THROW v id) k w h l q = both (in5 (lt 4096 v h.0) (le 65535 id h.1) zero_fits zero_fits zero_fits) q
  statement_in (BREAK b id d n) k w h l q = both (in5 (lt 1024 b h.0) (le 65535 id h.1) (kind_fits d) (le 128 n w) zero_fits) q
  statement_in (CONTINUE b id d n) k w h l q = both (in5 (lt 1024 b h.0) (le 65535 id h.1) (kind_fits d) (le 128 n w) zero_fits) q

  statements_in : (s : Statements) (k : List Row) → WellFormed s → RangedStatements s → Short (statements_rows s k) → all_in_range k ≡ true → all_in_range (statements_rows s k) ≡ true
  statements_in done k w h l q = q
  statements_in (s ▸ rest) k w h l q = statement_in s (statements_rows rest k) w.0 h.0 l (statements_in rest k w.1 h.1 (omega (arith, statement_long s (statements_rows rest k))) q)

  block_in : (s : Statements) (k : List Row) → WellFormed s → RangedStatements s → Short (block_rows s k) → all_in_range k ≡ true → all_in_range (block_rows s k) ≡ true
  block_in done k w h l q = both (in5 (lt 2048 0 (omega arith)) zero_fits zero_fits zero_fits zero_fits) q
  block_in (s ▸ rest) k w h l q =
      let K : List Row = row 9 (suc (count_statements rest)) 0 0 0 0 ∷ k in
      let m : count_statements rest + length K ≤ length (statements_rows rest K) = statements_long rest K in
      let n : length (statements_rows rest K) < length (statement_rows s (statements_rows rest K)) = statement_long s (statements_rows rest K) in
      statement_in s (statements_rows rest K) w.0 h.0 l
      (statements_in rest K w.1 h.1 (omega arith)
      (both (in5 (lt 2048 (suc (count_statements rest)) (omega arith)) zero_fits zero_fits zero_fits zero_fits) q))

  cases_in : (c : Cases) (k : List Row) → WellFormedCases c → RangedCases c → Short (cases_rows c k) → all_in_range k ≡ true → all_in_range (cases_rows c k) ≡ true
  cases_in no_cases k w h l q = q
  cases_in (CASE x b rest) k w h l q =
      let K : List Row = row 11 x 0 0 0 0 ∷ cases_rows rest k in
      let m : length K < length (block_rows b K) = block_long b K in
      block_in b K w.0 h.1 l (both (in5 (or_none_lem 4096 x h.0) zero_fits zero_fits zero_fits zero_fits) (cases_in rest k w.1 h.2 (omega arith) q))

pub tree_in : (root : Statements) → WellFormed root → RangedStatements root → length (rows root) ≤ 2048 → all_in_range (rows root) ≡ true
tree_in root w h l = block_in root [] w h l refl
