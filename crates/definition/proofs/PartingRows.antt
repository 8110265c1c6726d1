-- M-102: trees that differ only in BREAKs that are Labeled in place of Unlabeled have equally many rows, and these differ only so. For crates/theorems.
use mathlib.Core.Path.{◌≡◌, refl, ap, subst}
use Prim.Native.Nat.{ℕ, suc}
use mathlib.Core.List.{List, [], ◌∷◌, ◌++◌}
use mathlib.Core.Option.{Option, none, some}
use mathlib.Core.Bool.{true, false}
use lib.ListN.{length}
use Rattle.definition.specs.Tree.{Value, Statement, Statements, count_statements, Cases, count_cases, Row, row, or_none, value_rows, update_rows}
use Rattle.definition.specs.Tree.{statement_rows, statements_rows, block_rows, cases_rows, rows}
use Rattle.definition.proofs.Relabels.{Relabeled, the_same, a_break, in_if, in_switch, in_do_while, in_while, in_for, in_for_of, in_for_in, in_label, in_try, in_scope}
use Rattle.definition.proofs.Relabels.{RelabeledAll, none_left, and_then, RelabeledCases, no_case_left, a_case, relabels}
use Rattle.definition.specs.Around.{Enclosing}
use Rattle.definition.specs.Relabeled.{relabeled}
use Rattle.definition.specs.RelabeledRows.{RelabeledRows, no_row_left, the_same_row, a_break_row}
use Rattle.definition.proofs.Rows.{value_append, statement_append}

pub as_many_rows : (list list' : List Row) → RelabeledRows list list' → length list' ≡ length list
as_many_rows list list' no_row_left = refl
as_many_rows list list' (the_same_row one {rest} {rest'} p) = ap suc (as_many_rows rest rest' p)
as_many_rows list list' (a_break_row target id loops {rest} {rest'} p) = ap suc (as_many_rows rest rest' p)

-- the same rows before them
same_before : (list : List Row) {rest rest' : List Row} → RelabeledRows rest rest' → RelabeledRows (list ++ rest) (list ++ rest')
same_before [] p = p
same_before (one ∷ list) p = the_same_row one (same_before list p)

value_before : (v : Value) {rest rest' : List Row} → RelabeledRows rest rest' → RelabeledRows (value_rows v rest) (value_rows v rest')
value_before v {rest} {rest'} p = rw (value_append v [] rest, value_append v [] rest') (same_before (value_rows v []) p)

update_before : (v : Option Value) {rest rest' : List Row} → RelabeledRows rest rest' → RelabeledRows (update_rows v rest) (update_rows v rest')
update_before none p = p
update_before (some v) p = value_before v p

statements_many : {s s' : Statements} → RelabeledAll s s' → count_statements s ≡ count_statements s'
statements_many none_left = refl
statements_many (and_then p q) = ap suc (statements_many q)

cases_many : {s s' : Cases} → RelabeledCases s s' → count_cases s ≡ count_cases s'
cases_many no_case_left = refl
cases_many (a_case test p q) = ap suc (cases_many q)

-- a closing row whose count is told in two ways
counted_row : (close : ℕ → Row) {n n' : ℕ} {rest rest' : List Row} → n ≡ n' → RelabeledRows rest rest' → RelabeledRows (close n ∷ rest) (close n' ∷ rest')
counted_row close {n} {n'} {rest} {rest'} e p = subst (λ (m : ℕ). RelabeledRows (close n ∷ rest) (close m ∷ rest')) e (the_same_row (close n) p)

mutual
  statement_rows_lem : {s s' : Statement} {rest rest' : List Row} → Relabeled s s' → RelabeledRows rest rest' → RelabeledRows (statement_rows s rest) (statement_rows s' rest')
  statement_rows_lem {rest = rest} {rest' = rest'} (the_same s) r = rw (statement_append s [] rest, statement_append s [] rest') (same_before (statement_rows s []) r)
  statement_rows_lem (a_break target id loops) r = a_break_row target id loops r
  statement_rows_lem (in_if test id label true p q) r = block_rows_lem p (block_rows_lem q (the_same_row _ r))
  statement_rows_lem (in_if test id label false p q) r = block_rows_lem p (the_same_row _ r)
  statement_rows_lem (in_switch test id label p) r = cases_rows_lem p (counted_row (λ n. row 12 test n id (or_none label) 0) (cases_many p) r)
  statement_rows_lem (in_do_while id label test p) r = block_rows_lem p (value_before test (the_same_row _ r))
  statement_rows_lem (in_while id label test p) r = value_before test (block_rows_lem p (the_same_row _ r))
  statement_rows_lem (in_for id label init test update p) r = value_before init (value_before test (update_before update (block_rows_lem p (the_same_row _ r))))
  statement_rows_lem (in_for_of id label span init test p) r = value_before init (value_before test (block_rows_lem p (the_same_row _ r)))
  statement_rows_lem (in_for_in id label span init p) r = value_before init (block_rows_lem p (the_same_row _ r))
  statement_rows_lem (in_label id label p) r = block_rows_lem p (the_same_row _ r)
  statement_rows_lem (in_try id label binding p q) r = block_rows_lem p (block_rows_lem q (the_same_row _ r))
  statement_rows_lem (in_scope true scope p) r = block_rows_lem p (the_same_row _ r)
  statement_rows_lem (in_scope false scope p) r = block_rows_lem p (the_same_row _ r)

  list_rows : {s s' : Statements} {rest rest' : List Row} → RelabeledAll s s' → RelabeledRows rest rest' → RelabeledRows (statements_rows s rest) (statements_rows s' rest')
  list_rows none_left r = r
  list_rows (and_then p q) r = statement_rows_lem p (list_rows q r)

  block_rows_lem : {s s' : Statements} {rest rest' : List Row} → RelabeledAll s s' → RelabeledRows rest rest' → RelabeledRows (block_rows s rest) (block_rows s' rest')
  block_rows_lem none_left r = the_same_row _ r
  block_rows_lem (and_then p q) r = statement_rows_lem p (list_rows q (counted_row (λ n. row 9 (suc n) 0 0 0 0) (statements_many q) r))

  cases_rows_lem : {s s' : Cases} {rest rest' : List Row} → RelabeledCases s s' → RelabeledRows rest rest' → RelabeledRows (cases_rows s rest) (cases_rows s' rest')
  cases_rows_lem no_case_left r = r
  cases_rows_lem (a_case test p q) r = block_rows_lem p (the_same_row _ (cases_rows_lem q r))

-- of whole trees
pub rows_part : (around : List Enclosing) (s : Statements) → RelabeledRows (rows s) (rows (relabeled around s))
rows_part around s = block_rows_lem (relabels around s) no_row_left
