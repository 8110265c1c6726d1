-- M-102: the language entry's tree and the first entry's are the same but for BREAKs that are Labeled in place of Unlabeled. For proofs/PartingRows and for
-- the lines (crates/theorems), which look at no kind.
use Prim.Native.Nat.{ℕ}
use mathlib.Core.List.{List}
use mathlib.Core.Option.{Option}
use mathlib.Core.Bool.{Bool, true, false}
use Rattle.table.specs.declared.columns.Span.{Span}
use Rattle.definition.specs.Tree.{Kind, implicit, unlabeled, labeled, Value, Statement, INSTR, IF, SWITCH, DOWHILE, WHILE, FOR, FOROF, FORIN, LABEL, TRY, SCOPE, RETURN, THROW, BREAK, CONTINUE}
use Rattle.definition.specs.Tree.{Statements, done, ◌▸◌, Cases, no_cases, CASE}
use Rattle.definition.specs.Around.{language, Enclosing, kind_by, is_switch_inside}
use Rattle.definition.specs.Relabeled.{relabeled_statement, relabeled, relabeled_cases}

mutual
  pub data Relabeled : Statement → Statement → Type 0 where
    the_same : (statement : Statement) → Relabeled statement statement
    a_break : (target id loops : ℕ) → Relabeled (BREAK target id unlabeled loops) (BREAK target id labeled loops)
    in_if : (test id : ℕ) (label : Option ℕ) (present : Bool) {first first' second second' : Statements} → RelabeledAll first first' → RelabeledAll second second'
        → Relabeled (IF test id label first present second) (IF test id label first' present second')
    in_switch : (test id : ℕ) (label : Option ℕ) {cases cases' : Cases} → RelabeledCases cases cases' → Relabeled (SWITCH test id label cases) (SWITCH test id label cases')
    in_do_while : (id : ℕ) (label : Option ℕ) (test : Value) {body body' : Statements} → RelabeledAll body body' → Relabeled (DOWHILE id label body test) (DOWHILE id label body' test)
    in_while : (id : ℕ) (label : Option ℕ) (test : Value) {body body' : Statements} → RelabeledAll body body' → Relabeled (WHILE id label test body) (WHILE id label test body')
    in_for : (id : ℕ) (label : Option ℕ) (init test : Value) (update : Option Value) {body body' : Statements} → RelabeledAll body body'
        → Relabeled (FOR id label init test update body) (FOR id label init test update body')
    in_for_of : (id : ℕ) (label : Option ℕ) (span : Span) (init test : Value) {body body' : Statements} → RelabeledAll body body'
        → Relabeled (FOROF id label span init test body) (FOROF id label span init test body')
    in_for_in : (id : ℕ) (label : Option ℕ) (span : Span) (init : Value) {body body' : Statements} → RelabeledAll body body'
        → Relabeled (FORIN id label span init body) (FORIN id label span init body')
    in_label : (id : ℕ) (label : Option ℕ) {body body' : Statements} → RelabeledAll body body' → Relabeled (LABEL id label body) (LABEL id label body')
    in_try : (id : ℕ) (label binding : Option ℕ) {first first' second second' : Statements} → RelabeledAll first first' → RelabeledAll second second'
        → Relabeled (TRY id label binding first second) (TRY id label binding first' second')
    in_scope : (pruned : Bool) (scope : ℕ) {body body' : Statements} → RelabeledAll body body' → Relabeled (SCOPE pruned scope body) (SCOPE pruned scope body')

  pub data RelabeledAll : Statements → Statements → Type 0 where
    none_left : RelabeledAll done done
    and_then : {statement statement' : Statement} {rest rest' : Statements} → Relabeled statement statement' → RelabeledAll rest rest' → RelabeledAll (statement ▸ rest) (statement' ▸ rest')

  pub data RelabeledCases : Cases → Cases → Type 0 where
    no_case_left : RelabeledCases no_cases no_cases
    a_case : (test : ℕ) {body body' : Statements} {rest rest' : Cases} → RelabeledAll body body' → RelabeledCases rest rest' → RelabeledCases (CASE test body rest) (CASE test body' rest')

break_labels : (target id loops : ℕ) (kind : Kind) (y : Bool) → Relabeled (BREAK target id kind loops) (BREAK target id (kind_by language y kind) loops)
unfolding kind_by
break_labels target id loops implicit y = the_same _
break_labels target id loops labeled y = the_same _
break_labels target id loops unlabeled true = a_break target id loops
break_labels target id loops unlabeled false = the_same _

mutual
  unfolding relabeled

  statement_relabels : (E : List Enclosing) (s : Statement) → Relabeled s (relabeled_statement E s)
  statement_relabels E (INSTR i l s v) = the_same _
  statement_relabels E (IF x i l c p a) = in_if x i l p (relabels _ c) (relabels _ a)
  statement_relabels E (SWITCH x i l cs) = in_switch x i l (cases_relabel _ cs)
  statement_relabels E (DOWHILE i l b v) = in_do_while i l v (relabels _ b)
  statement_relabels E (WHILE i l v b) = in_while i l v (relabels _ b)
  statement_relabels E (FOR i l n v u b) = in_for i l n v u (relabels _ b)
  statement_relabels E (FOROF i l s n v b) = in_for_of i l s n v (relabels _ b)
  statement_relabels E (FORIN i l s n b) = in_for_in i l s n (relabels _ b)
  statement_relabels E (LABEL i l b) = in_label i l (relabels _ b)
  statement_relabels E (TRY i l n b h) = in_try i l n (relabels _ b) (relabels _ h)
  statement_relabels E (SCOPE p n b) = in_scope p n (relabels _ b)
  statement_relabels E (RETURN v i) = the_same _
  statement_relabels E (THROW v i) = the_same _
  statement_relabels E (BREAK t i k n) = break_labels t i n k (is_switch_inside E)
  statement_relabels E (CONTINUE t i k n) = the_same _

  pub relabels : (E : List Enclosing) (s : Statements) → RelabeledAll s (relabeled E s)
  relabels E done = none_left
  relabels E (s ▸ rest) = and_then (statement_relabels E s) (relabels E rest)

  cases_relabel : (E : List Enclosing) (cs : Cases) → RelabeledCases cs (relabeled_cases E cs)
  cases_relabel E no_cases = no_case_left
  cases_relabel E (CASE x b rest) = a_case x (relabels E b) (cases_relabel E rest)
