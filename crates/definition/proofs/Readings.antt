-- The rows determine the tree: the reader (specs/Reader) gives every well-formed tree back from its rows. So one list of rows is read as one tree.
-- For proofs/Law.
use mathlib.Core.Path.{◌≡◌, refl, sym, ap, ◌∙◌}
use Prim.Native.Nat.{ℕ, suc, ◌+◌}
use native.Mathlib.Nat.{zero-add, add-zero}
use native.Mathlib.Omega.{arith}
use mathlib.Core.List.{List, [], ◌∷◌}
use mathlib.Core.Option.{Option, none, some}
use mathlib.Core.Bool.{Bool, true, false}
use borrow.Author.Tests.{ne_eqb}
use Rattle.table.specs.Words.{largest}
use Rattle.table.specs.Table.{unless_none}
use Rattle.definition.specs.Tree.{Kind, implicit, labeled, unlabeled, Value, PLAIN, LOAD, UNDEF, SEQ, LOGICAL, COND, OPTIONAL, Instructions, undef_row, instr_row, for_of_row, for_in_row}
use Rattle.definition.specs.Tree.{no_instructions, instruction, Statement, INSTR, IF, SWITCH, DOWHILE, WHILE, FOR, FOROF, FORIN, LABEL, TRY, SCOPE}
use Rattle.definition.specs.Tree.{RETURN, THROW, BREAK, CONTINUE, Statements, done, ◌▸◌, Cases, no_cases, CASE, Row, row, or_none, kind_number, value_rows}
use Rattle.definition.specs.Tree.{instructions_rows, count_instructions, count_statements, count_cases, statement_rows, statements_rows, block_rows, cases_rows}
use Rattle.definition.specs.Tree.{rows, undef_row, instr_row, for_of_row, for_in_row}
use Rattle.definition.specs.Reading.{BelowNone, EmptyUnless, WellFormedStatement, WellFormed, WellFormedCases, Part, value, statement, block, case}
use Rattle.definition.specs.Reading.{part_rows, Forest, forest_rows, WellFormedPart, WellFormedForest, ReadAsForest, ReadAs}
use Rattle.definition.specs.Reader.{Step, take_value, take_statement, take_block, take_case, as_instruction, take_instructions, take_statements, take_cases}
use Rattle.definition.specs.Reader.{pushes, kind_of, close_if, close_for, closings, close, read}
use Rattle.definition.specs.Value.{appended}

-- ---- many of a kind

unfoldable push_instructions : Instructions → Forest → Forest
push_instructions no_instructions S = S
push_instructions (instruction i l s v r) S = push_instructions r (statement (INSTR i l s v) ∷ S)

unfoldable push_statements : Statements → Forest → Forest
push_statements done S = S
push_statements (s ▸ r) S = push_statements r (statement s ∷ S)

unfoldable push_cases : Cases → Forest → Forest
push_cases no_cases S = S
push_cases (CASE t b r) S = push_cases r (case t b ∷ S)

unfoldable appended_statements : Statements → Statements → Statements
appended_statements done more = more
appended_statements (s ▸ r) more = s ▸ appended_statements r more

unfoldable appended_cases : Cases → Cases → Cases
appended_cases no_cases more = more
appended_cases (CASE t b r) more = CASE t b (appended_cases r more)

appended_none : (is : Instructions) → appended is no_instructions ≡ is
unfolding appended
appended_none no_instructions = refl
appended_none (instruction i l s v r) = ap (λ (z : Instructions). instruction i l s v z) (appended_none r)

appended_done : (ss : Statements) → appended_statements ss done ≡ ss
unfolding appended_statements
appended_done done = refl
appended_done (s ▸ r) = ap (λ (z : Statements). s ▸ z) (appended_done r)

appended_no_cases : (cs : Cases) → appended_cases cs no_cases ≡ cs
unfolding appended_cases
appended_no_cases no_cases = refl
appended_no_cases (CASE t b r) = ap (λ (z : Cases). CASE t b z) (appended_no_cases r)

next : (n m : ℕ) → suc n + m ≡ n + suc m
next n m = omega arith

instructions_taken : (is : Instructions) (m : ℕ) (more : Instructions) (then : Instructions → Step) (S : Forest)
    → take_instructions (count_instructions is + m) more then (push_instructions is S) ≡ take_instructions m (appended is more) then S
unfolding take_instructions push_instructions appended take_statement as_instruction
instructions_taken no_instructions m more then S = ap (λ (n : ℕ). take_instructions n more then S) (zero-add m)
instructions_taken (instruction i l s v r) m more then S =
    ap (λ (n : ℕ). take_instructions n more then (push_instructions r (statement (INSTR i l s v) ∷ S))) (next (count_instructions r) m)
    ∙ instructions_taken r (suc m) more then (statement (INSTR i l s v) ∷ S)

statements_taken : (ss : Statements) (m : ℕ) (more : Statements) (then : Statements → Step) (S : Forest)
    → take_statements (count_statements ss + m) more then (push_statements ss S) ≡ take_statements m (appended_statements ss more) then S
unfolding take_statements push_statements appended_statements take_statement
statements_taken done m more then S = ap (λ (n : ℕ). take_statements n more then S) (zero-add m)
statements_taken (s ▸ r) m more then S =
    ap (λ (n : ℕ). take_statements n more then (push_statements r (statement s ∷ S))) (next (count_statements r) m)
    ∙ statements_taken r (suc m) more then (statement s ∷ S)

cases_taken : (cs : Cases) (m : ℕ) (more : Cases) (then : Cases → Step) (S : Forest)
    → take_cases (count_cases cs + m) more then (push_cases cs S) ≡ take_cases m (appended_cases cs more) then S
unfolding take_cases push_cases appended_cases take_case
cases_taken no_cases m more then S = ap (λ (n : ℕ). take_cases n more then S) (zero-add m)
cases_taken (CASE t b r) m more then S =
    ap (λ (n : ℕ). take_cases n more then (push_cases r (case t b ∷ S))) (next (count_cases r) m)
    ∙ cases_taken r (suc m) more then (case t b ∷ S)

-- all that were pushed
all_instructions : (is : Instructions) (then : Instructions → Step) (S : Forest) → take_instructions (count_instructions is) no_instructions then (push_instructions is S) ≡ then is S
unfolding take_instructions
all_instructions is then S =
    ap (λ (n : ℕ). take_instructions n no_instructions then (push_instructions is S)) (sym (add-zero (count_instructions is)))
    ∙ instructions_taken is 0 no_instructions then S ∙ ap (λ (z : Instructions). then z S) (appended_none is)

all_statements : (ss : Statements) (then : Statements → Step) (S : Forest) → take_statements (count_statements ss) done then (push_statements ss S) ≡ then ss S
unfolding take_statements
all_statements ss then S =
    ap (λ (n : ℕ). take_statements n done then (push_statements ss S)) (sym (add-zero (count_statements ss)))
    ∙ statements_taken ss 0 done then S ∙ ap (λ (z : Statements). then z S) (appended_done ss)

all_cases : (cs : Cases) (then : Cases → Step) (S : Forest) → take_cases (count_cases cs) no_cases then (push_cases cs S) ≡ then cs S
unfolding take_cases
all_cases cs then S =
    ap (λ (n : ℕ). take_cases n no_cases then (push_cases cs S)) (sym (add-zero (count_cases cs)))
    ∙ cases_taken cs 0 no_cases then S ∙ ap (λ (z : Cases). then z S) (appended_no_cases cs)

-- a row that closes
closed : (r : Row) (after : List Row) (S S' : Forest) → close r S ≡ some S' → read (r ∷ after) S ≡ read after S'
unfolding read
closed r after S S' e = ap (λ (o : Option Forest). elim o [ none ↦ none | some Z ↦ read after Z ]) e

-- ---- values

mutual
  unfolding close closings pushes take_value push_instructions

  value_read : (v : Value) (after : List Row) (S : Forest) → read (value_rows v after) S ≡ read after (value v ∷ S)
  value_read (PLAIN r) after S = closed (row 1 r 0 0 0 0) after S (value (PLAIN r) ∷ S) refl
  value_read (LOAD p) after S = closed (row 2 p 0 0 0 0) after S (value (LOAD p) ∷ S) refl
  value_read (UNDEF s) after S = closed (undef_row s) after S (value (UNDEF s) ∷ S) refl
  value_read (SEQ is i v) after S =
      instructions_read is (value_rows v (row 5 (count_instructions is) i 0 0 0 ∷ after)) S
      ∙ value_read v (row 5 (count_instructions is) i 0 0 0 ∷ after) (push_instructions is S)
      ∙ closed (row 5 (count_instructions is) i 0 0 0) after (value v ∷ push_instructions is S) (value (SEQ is i v) ∷ S)
      (all_instructions is (λ z. pushes (value (SEQ z i v))) S)
  value_read (LOGICAL o l r) after S =
      value_read l (value_rows r (row 6 o 0 0 0 0 ∷ after)) S
      ∙ value_read r (row 6 o 0 0 0 0 ∷ after) (value l ∷ S)
      ∙ closed (row 6 o 0 0 0 0) after (value r ∷ value l ∷ S) (value (LOGICAL o l r) ∷ S) refl
  value_read (COND x y z) after S =
      value_read x (value_rows y (value_rows z (row 7 0 0 0 0 0 ∷ after))) S
      ∙ value_read y (value_rows z (row 7 0 0 0 0 0 ∷ after)) (value x ∷ S)
      ∙ value_read z (row 7 0 0 0 0 0 ∷ after) (value y ∷ value x ∷ S)
      ∙ closed (row 7 0 0 0 0 0) after (value z ∷ value y ∷ value x ∷ S) (value (COND x y z) ∷ S) refl
  value_read (OPTIONAL f v) after S =
      value_read v (row 8 f 0 0 0 0 ∷ after) S ∙ closed (row 8 f 0 0 0 0) after (value v ∷ S) (value (OPTIONAL f v) ∷ S) refl

  instructions_read : (is : Instructions) (after : List Row) (S : Forest) → read (instructions_rows is after) S ≡ read after (push_instructions is S)
  instructions_read no_instructions after S = refl
  instructions_read (instruction i l s v r) after S =
      value_read v (instr_row i l s ∷ instructions_rows r after) S
      ∙ closed (instr_row i l s) (instructions_rows r after) (value v ∷ S) (statement (INSTR i l s v) ∷ S) refl
      ∙ instructions_read r after (statement (INSTR i l s v) ∷ S)

-- ---- statements

label_read : (l : Option ℕ) → BelowNone l → unless_none (or_none l) ≡ l
unfolding unless_none
label_read none h = refl
label_read (some n) h = ap (λ (y : Bool). elim y [ true ↦ none | false ↦ some n ]) (ne_eqb n largest (omega arith))

kind_read : (k : Kind) → kind_of (kind_number k) ≡ k
unfolding kind_of
kind_read implicit = refl
kind_read labeled = refl
kind_read unlabeled = refl

is_done : (a : Statements) → EmptyUnless false a → done ≡ a
is_done done h = refl
is_done (s ▸ r) h = absurd h

-- a closing row that gives one item, up to its label
gives : (r : Row) (after : List Row) (S S' : Forest) (made item : Part) → close r S ≡ some (made ∷ S') → made ≡ item → read (r ∷ after) S ≡ read after (item ∷ S')
gives r after S S' made item e q = closed r after S (item ∷ S') (e ∙ ap (λ (z : Part). some (z ∷ S')) q)

mutual
  unfolding close closings pushes take_value take_block close_if close_for WellFormed push_statements push_cases

  statement_read : (s : Statement) → WellFormedStatement s → (after : List Row) (S : Forest) → read (statement_rows s after) S ≡ read after (statement s ∷ S)
  statement_read (INSTR i l s v) w after S =
      value_read v (instr_row i l s ∷ after) S ∙ closed (instr_row i l s) after (value v ∷ S) (statement (INSTR i l s v) ∷ S) refl
  statement_read (IF t i l c true a) w after S =
      block_read c w.1 (block_rows a (row 10 t 1 i (or_none l) 0 ∷ after)) S
      ∙ block_read a w.2 (row 10 t 1 i (or_none l) 0 ∷ after) (block c ∷ S)
      ∙ gives (row 10 t 1 i (or_none l) 0) after (block a ∷ block c ∷ S) S (statement (IF t i (unless_none (or_none l)) c true a)) (statement (IF t i l c true a)) refl
      (ap (λ (z : Option ℕ). statement (IF t i z c true a)) (label_read l w.0))
  statement_read (IF t i l c false a) w after S =
      block_read c w.1 (row 10 t 0 i (or_none l) 0 ∷ after) S
      ∙ gives (row 10 t 0 i (or_none l) 0) after (block c ∷ S) S (statement (IF t i (unless_none (or_none l)) c false done)) (statement (IF t i l c false a)) refl
      (ap (λ (z : Option ℕ). statement (IF t i z c false done)) (label_read l w.0) ∙ ap (λ (z : Statements). statement (IF t i l c false z)) (is_done a w.3))
  statement_read (SWITCH t i l cs) w after S =
      cases_read cs w.1 (row 12 t (count_cases cs) i (or_none l) 0 ∷ after) S
      ∙ gives (row 12 t (count_cases cs) i (or_none l) 0) after (push_cases cs S) S (statement (SWITCH t i (unless_none (or_none l)) cs)) (statement (SWITCH t i l cs))
      (all_cases cs (λ z. pushes (statement (SWITCH t i (unless_none (or_none l)) z))) S)
      (ap (λ (z : Option ℕ). statement (SWITCH t i z cs)) (label_read l w.0))
  statement_read (DOWHILE i l b t) w after S =
      block_read b w.1 (value_rows t (row 13 i (or_none l) 0 0 0 ∷ after)) S
      ∙ value_read t (row 13 i (or_none l) 0 0 0 ∷ after) (block b ∷ S)
      ∙ gives (row 13 i (or_none l) 0 0 0) after (value t ∷ block b ∷ S) S (statement (DOWHILE i (unless_none (or_none l)) b t)) (statement (DOWHILE i l b t)) refl
      (ap (λ (z : Option ℕ). statement (DOWHILE i z b t)) (label_read l w.0))
  statement_read (WHILE i l t b) w after S =
      value_read t (block_rows b (row 14 i (or_none l) 0 0 0 ∷ after)) S
      ∙ block_read b w.1 (row 14 i (or_none l) 0 0 0 ∷ after) (value t ∷ S)
      ∙ gives (row 14 i (or_none l) 0 0 0) after (block b ∷ value t ∷ S) S (statement (WHILE i (unless_none (or_none l)) t b)) (statement (WHILE i l t b)) refl
      (ap (λ (z : Option ℕ). statement (WHILE i z t b)) (label_read l w.0))
  statement_read (FOR i l n t none b) w after S =
      value_read n (value_rows t (block_rows b (row 15 i (or_none l) 0 0 0 ∷ after))) S
      ∙ value_read t (block_rows b (row 15 i (or_none l) 0 0 0 ∷ after)) (value n ∷ S)
      ∙ block_read b w.1 (row 15 i (or_none l) 0 0 0 ∷ after) (value t ∷ value n ∷ S)
      ∙ gives (row 15 i (or_none l) 0 0 0) after (block b ∷ value t ∷ value n ∷ S) S (statement (FOR i (unless_none (or_none l)) n t none b)) (statement (FOR i l n t none b)) refl
      (ap (λ (z : Option ℕ). statement (FOR i z n t none b)) (label_read l w.0))
  statement_read (FOR i l n t (some u) b) w after S =
      value_read n (value_rows t (value_rows u (block_rows b (row 15 i (or_none l) 1 0 0 ∷ after)))) S
      ∙ value_read t (value_rows u (block_rows b (row 15 i (or_none l) 1 0 0 ∷ after))) (value n ∷ S)
      ∙ value_read u (block_rows b (row 15 i (or_none l) 1 0 0 ∷ after)) (value t ∷ value n ∷ S)
      ∙ block_read b w.1 (row 15 i (or_none l) 1 0 0 ∷ after) (value u ∷ value t ∷ value n ∷ S)
      ∙ gives (row 15 i (or_none l) 1 0 0) after (block b ∷ value u ∷ value t ∷ value n ∷ S) S (statement (FOR i (unless_none (or_none l)) n t (some u) b)) (statement (FOR i l n t (some u) b)) refl
      (ap (λ (z : Option ℕ). statement (FOR i z n t (some u) b)) (label_read l w.0))
  statement_read (FOROF i l s n t b) w after S =
      value_read n (value_rows t (block_rows b (for_of_row i (or_none l) s ∷ after))) S
      ∙ value_read t (block_rows b (for_of_row i (or_none l) s ∷ after)) (value n ∷ S)
      ∙ block_read b w.1 (for_of_row i (or_none l) s ∷ after) (value t ∷ value n ∷ S)
      ∙ gives (for_of_row i (or_none l) s) after (block b ∷ value t ∷ value n ∷ S) S (statement (FOROF i (unless_none (or_none l)) s n t b)) (statement (FOROF i l s n t b)) refl
      (ap (λ (z : Option ℕ). statement (FOROF i z s n t b)) (label_read l w.0))
  statement_read (FORIN i l s n b) w after S =
      value_read n (block_rows b (for_in_row i (or_none l) s ∷ after)) S
      ∙ block_read b w.1 (for_in_row i (or_none l) s ∷ after) (value n ∷ S)
      ∙ gives (for_in_row i (or_none l) s) after (block b ∷ value n ∷ S) S (statement (FORIN i (unless_none (or_none l)) s n b)) (statement (FORIN i l s n b)) refl
      (ap (λ (z : Option ℕ). statement (FORIN i z s n b)) (label_read l w.0))
  statement_read (LABEL i l b) w after S =
      block_read b w.1 (row 18 i (or_none l) 0 0 0 ∷ after) S
      ∙ gives (row 18 i (or_none l) 0 0 0) after (block b ∷ S) S (statement (LABEL i (unless_none (or_none l)) b)) (statement (LABEL i l b)) refl
      (ap (λ (z : Option ℕ). statement (LABEL i z b)) (label_read l w.0))
  statement_read (TRY i l n b h) w after S =
      block_read b w.2 (block_rows h (row 19 i (or_none l) (or_none n) 0 0 ∷ after)) S
      ∙ block_read h w.3 (row 19 i (or_none l) (or_none n) 0 0 ∷ after) (block b ∷ S)
      ∙ gives (row 19 i (or_none l) (or_none n) 0 0) after (block h ∷ block b ∷ S) S (statement (TRY i (unless_none (or_none l)) (unless_none (or_none n)) b h)) (statement (TRY i l n b h)) refl
      (ap (λ (z : Option ℕ). statement (TRY i z (unless_none (or_none n)) b h)) (label_read l w.0) ∙ ap (λ (z : Option ℕ). statement (TRY i l z b h)) (label_read n w.1))
  statement_read (SCOPE true n b) w after S =
      block_read b w (row 21 n 0 0 0 0 ∷ after) S ∙ closed (row 21 n 0 0 0 0) after (block b ∷ S) (statement (SCOPE true n b) ∷ S) refl
  statement_read (SCOPE false n b) w after S =
      block_read b w (row 20 n 0 0 0 0 ∷ after) S ∙ closed (row 20 n 0 0 0 0) after (block b ∷ S) (statement (SCOPE false n b) ∷ S) refl
  statement_read (RETURN v i) w after S = closed (row 22 v i 0 0 0) after S (statement (RETURN v i) ∷ S) refl
  statement_read (THROW v i) w after S = closed (row 23 v i 0 0 0) after S (statement (THROW v i) ∷ S) refl
  statement_read (BREAK t i k n) w after S =
      gives (row 24 t i (kind_number k) n 0) after S S (statement (BREAK t i (kind_of (kind_number k)) n)) (statement (BREAK t i k n)) refl (ap (λ (z : Kind). statement (BREAK t i z n)) (kind_read k))
  statement_read (CONTINUE t i k n) w after S =
      gives (row 25 t i (kind_number k) n 0) after S S (statement (CONTINUE t i (kind_of (kind_number k)) n)) (statement (CONTINUE t i k n)) refl
      (ap (λ (z : Kind). statement (CONTINUE t i z n)) (kind_read k))

  statements_read : (ss : Statements) → WellFormed ss → (after : List Row) (S : Forest) → read (statements_rows ss after) S ≡ read after (push_statements ss S)
  statements_read done w after S = refl
  statements_read (s ▸ r) w after S = statement_read s w.0 (statements_rows r after) S ∙ statements_read r w.1 after (statement s ∷ S)

  block_read : (ss : Statements) → WellFormed ss → (after : List Row) (S : Forest) → read (block_rows ss after) S ≡ read after (block ss ∷ S)
  block_read done w after S = closed (row 9 0 0 0 0 0) after S (block done ∷ S) (all_statements done (λ z. pushes (block z)) S)
  block_read (s ▸ r) w after S =
      statement_read s w.0 (statements_rows r (row 9 (suc (count_statements r)) 0 0 0 0 ∷ after)) S
      ∙ statements_read r w.1 (row 9 (suc (count_statements r)) 0 0 0 0 ∷ after) (statement s ∷ S)
      ∙ closed (row 9 (suc (count_statements r)) 0 0 0 0) after (push_statements (s ▸ r) S) (block (s ▸ r) ∷ S) (all_statements (s ▸ r) (λ z. pushes (block z)) S)

  cases_read : (cs : Cases) → WellFormedCases cs → (after : List Row) (S : Forest) → read (cases_rows cs after) S ≡ read after (push_cases cs S)
  cases_read no_cases w after S = refl
  cases_read (CASE t b r) w after S =
      block_read b w.0 (row 11 t 0 0 0 0 ∷ cases_rows r after) S
      ∙ closed (row 11 t 0 0 0 0) (cases_rows r after) (block b ∷ S) (case t b ∷ S) refl
      ∙ cases_read r w.1 after (case t b ∷ S)

-- ---- one reading

part_read : (p : Part) → WellFormedPart p → (after : List Row) (S : Forest) → read (part_rows p after) S ≡ read after (p ∷ S)
unfolding close closings pushes take_block
part_read (value v) w after S = value_read v after S
part_read (statement s) w after S = statement_read s w after S
part_read (block b) w after S = block_read b w after S
part_read (case t b) w after S = block_read b w (row 11 t 0 0 0 0 ∷ after) S ∙ closed (row 11 t 0 0 0 0) after (block b ∷ S) (case t b ∷ S) refl

-- the reader gives parts back from their rows
pub forest_read : (S : Forest) → WellFormedForest S → (after : List Row) → read (forest_rows S after) [] ≡ read after S
forest_read [] w after = refl
forest_read (p ∷ S) w after = forest_read S w.1 (part_rows p after) ∙ part_read p w.0 after S

some_forest : {S S' : Forest} → some S ≡ some S' → S ≡ S'
some_forest e = cc

-- one list of rows is read as one forest
pub one_forest : (list : List Row) (S S' : Forest) → ReadAsForest list S → ReadAsForest list S' → S ≡ S'
unfolding read
one_forest list S S' p q =
    some_forest (sym (forest_read S p.well_formed []) ∙ (ap (λ (z : List Row). read z []) (p.same_rows ∙ sym q.same_rows) ∙ forest_read S' q.well_formed []))

rows_read : (root : Statements) → WellFormed root → read (rows root) [] ≡ some (block root ∷ [])
unfolding read
rows_read root w = block_read root w [] []

block_eq : {s s' : Statements} → some (block s ∷ []) ≡ some (block s' ∷ []) → s ≡ s'
block_eq e = cc

-- one list of rows is read as one tree
pub one_reading : (list : List Row) (root root' : Statements) → ReadAs list root → ReadAs list root' → root ≡ root'
one_reading list root root' p q =
    block_eq (sym (rows_read root p.well_formed) ∙ ap (λ (z : List Row). read z []) (p.same_rows ∙ sym q.same_rows) ∙ rows_read root' q.well_formed)
