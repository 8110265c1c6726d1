-- M-101: the lines of a tree, one for each statement with a label, from the tree alone. Quotes are M-101's.
use Rattle.std.specs.Prelude.{ℕ, ◌+◌, ◌-◌, List, [], ◌∷◌, ◌++◌, map, true, false, length}
use Rattle.std.proofs.Math.Option.{Option, none, some}
use Rattle.definition.specs.Tree.{Statement, INSTR, IF, SWITCH, DOWHILE, WHILE, FOR, FOROF, FORIN, LABEL, TRY, SCOPE, RETURN, THROW, BREAK, CONTINUE, Statements}
use Rattle.definition.specs.Tree.{done, ◌▸◌, Cases, no_cases, CASE, Row, value_rows, update_rows, statement_rows, block_rows}

-- ---- the statements of a tree that have a label

-- a label that is none gives no line, and neither does a SCOPE or a jump, whose rows have no label
abbrev pub label_of : Statement → Option ℕ
label_of (INSTR id lvalue span value) = none
label_of (IF test id label consequent present alternate) = label
label_of (SWITCH test id label cases) = label
label_of (DOWHILE id label body test) = label
label_of (WHILE id label test body) = label
label_of (FOR id label init test update body) = label
label_of (FOROF id label span init test body) = label
label_of (FORIN id label span init body) = label
label_of (LABEL id label body) = label
label_of (TRY id label binding body handler) = label
label_of (SCOPE pruned scope body) = none
label_of (RETURN value id) = none
label_of (THROW value id) = none
label_of (BREAK target id kind loops) = none
label_of (CONTINUE target id kind loops) = none

-- the number of rows that a part has
abbrev pub rows_in : (part : List Row → List Row) → ℕ
rows_in part = length (part [])

-- a statement with a label; its own rows begin at row `first` of the tree
pub record Labelled : Type 0 where
  pub label : ℕ
  pub first : ℕ
  pub statement : Statement

abbrev pub labelled_by : Option ℕ → (first : ℕ) → Statement → List Labelled
labelled_by none first statement = []
labelled_by (some label) first statement = record { label = label; first = first; statement = statement } ∷ []

-- those in the parts of a statement whose rows begin at row `first`, in a list and in cases that begin there: "in the order of closing rows"
unfoldable mutual
  pub in_parts : (first : ℕ) → Statement → List Labelled
  in_parts first (INSTR id lvalue span value) = []
  in_parts first (IF test id label consequent true alternate) = in_list first consequent ++ in_list (first + rows_in (block_rows consequent)) alternate
  in_parts first (IF test id label consequent false alternate) = in_list first consequent
  in_parts first (SWITCH test id label cases) = in_cases first cases
  in_parts first (DOWHILE id label body test) = in_list first body
  in_parts first (WHILE id label test body) = in_list (first + rows_in (value_rows test)) body
  in_parts first (FOR id label init test update body) = in_list (first + (rows_in (value_rows init) + (rows_in (value_rows test) + rows_in (update_rows update)))) body
  in_parts first (FOROF id label span init test body) = in_list (first + (rows_in (value_rows init) + rows_in (value_rows test))) body
  in_parts first (FORIN id label span init body) = in_list (first + rows_in (value_rows init)) body
  in_parts first (LABEL id label body) = in_list first body
  in_parts first (TRY id label binding body handler) = in_list first body ++ in_list (first + rows_in (block_rows body)) handler
  in_parts first (SCOPE pruned scope body) = in_list first body
  in_parts first (RETURN value id) = []
  in_parts first (THROW value id) = []
  in_parts first (BREAK target id kind loops) = []
  in_parts first (CONTINUE target id kind loops) = []

  pub in_list : (first : ℕ) → Statements → List Labelled
  in_list first done = []
  in_list first (statement ▸ rest) = (in_parts first statement ++ labelled_by (label_of statement) first statement) ++ in_list (first + rows_in (statement_rows statement)) rest

  pub in_cases : (first : ℕ) → Cases → List Labelled
  in_cases first no_cases = []
  in_cases first (CASE test body rest) = in_list first body ++ in_cases (first + (rows_in (block_rows body) + 1)) rest

abbrev pub labelled : (root : Statements) → List Labelled
labelled root = in_list 0 root

-- ---- lines

-- "one line of three words for each labelled row: label, first row of the statement, closing row"
pub record Line : Type 0 where
  pub label : ℕ
  pub first : ℕ
  pub closing : ℕ

-- the closing row is the last of the statement's rows
abbrev pub line_of : Labelled → Line
line_of labelled = record { label = labelled.label; first = labelled.first; closing = (labelled.first + rows_in (statement_rows labelled.statement)) - 1 }

unfoldable pub lines : (root : Statements) → List Line
lines root = map line_of (labelled root)

unfoldable pub line_words : List Line → List ℕ
line_words [] = []
line_words (line ∷ lines) = line.label ∷ line.first ∷ line.closing ∷ line_words lines

-- so it is with each of these
abbrev pub Each : (Labelled → Type 0) → List Labelled → Type 0
Each P [] = Unit {0}
Each P (entry ∷ entries) = P entry × Each P entries
