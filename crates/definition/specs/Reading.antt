-- The tree that rows are read as. Rows write 65,535 for no label and nothing for an absent alternate, so that the tree has to be well-formed:
-- then its rows are the rows of no other such tree (proofs/Readings).
use Rattle.std.specs.Prelude.{◌≡◌, ℕ, ◌≤◌, ◌<◌, ◌*◌, List, [], ◌∷◌, Bool, true, false, ◌||◌, eqb, length, take}
use Rattle.std.proofs.Math.Option.{Option, none, some}
use Rattle.table.specs.Words.{largest}
use Rattle.definition.specs.Tree.{Value, value_rows, statement_rows, block_rows, Statement, INSTR, IF, SWITCH, DOWHILE, WHILE, FOR, FOROF, FORIN, LABEL, TRY}
use Rattle.definition.specs.Tree.{SCOPE, RETURN, THROW, BREAK, CONTINUE, Statements, done, ◌▸◌, Cases, no_cases, CASE, Row, row, rows}
use Rattle.definition.specs.Build.{Outcome, words_of}

-- "Label 65,535 is none", so that no label is 65,535; and no binding
abbrev pub BelowNone : Option ℕ → Type 0
BelowNone none = Unit {0}
BelowNone (some n) = n < largest

-- an IF with no alternate has an empty one
abbrev pub EmptyUnless : (present : Bool) → (alternate : Statements) → Type 0
EmptyUnless true alternate = Unit {0}
EmptyUnless false done = Unit {0}
EmptyUnless false (statement ▸ rest) = ⊥

unfoldable mutual
  pub WellFormedStatement : Statement → Type 0
  WellFormedStatement (INSTR id lvalue span value) = Unit {0}
  WellFormedStatement (IF test id label consequent present alternate) = BelowNone label × WellFormed consequent × WellFormed alternate × EmptyUnless present alternate
  WellFormedStatement (SWITCH test id label cases) = BelowNone label × WellFormedCases cases
  WellFormedStatement (DOWHILE id label body test) = BelowNone label × WellFormed body
  WellFormedStatement (WHILE id label test body) = BelowNone label × WellFormed body
  WellFormedStatement (FOR id label init test update body) = BelowNone label × WellFormed body
  WellFormedStatement (FOROF id label span init test body) = BelowNone label × WellFormed body
  WellFormedStatement (FORIN id label span init body) = BelowNone label × WellFormed body
  WellFormedStatement (LABEL id label body) = BelowNone label × WellFormed body
  WellFormedStatement (TRY id label binding body handler) = BelowNone label × BelowNone binding × WellFormed body × WellFormed handler
  WellFormedStatement (SCOPE pruned scope body) = WellFormed body
  WellFormedStatement (RETURN value id) = Unit {0}
  WellFormedStatement (THROW value id) = Unit {0}
  WellFormedStatement (BREAK target id kind loops) = loops ≤ 128
  WellFormedStatement (CONTINUE target id kind loops) = loops ≤ 128

  pub WellFormed : Statements → Type 0
  WellFormed done = Unit {0}
  WellFormed (statement ▸ rest) = WellFormedStatement statement × WellFormed rest

  pub WellFormedCases : Cases → Type 0
  WellFormedCases no_cases = Unit {0}
  WellFormedCases (CASE test body rest) = WellFormed body × WellFormedCases rest

-- M-107: a BREAK's and a CONTINUE's row has at most 128 in d
abbrev pub JumpWithin : Row → Type 0
JumpWithin (row op a b c d e) = elim (eqb op 24 || eqb op 25) [ true ↦ d ≤ 128 | false ↦ Unit {0} ]

abbrev pub JumpsWithin : List Row → Type 0
JumpsWithin [] = Unit {0}
JumpsWithin (first ∷ rest) = JumpWithin first × JumpsWithin rest

-- ---- parts: what a closing row takes, and what it leaves

pub data Part : Type 0 where
  value : Value → Part
  statement : Statement → Part
  block : Statements → Part
  case : (test : ℕ) → Statements → Part

abbrev pub part_rows : Part → List Row → List Row
part_rows (value v) after = value_rows v after
part_rows (statement s) after = statement_rows s after
part_rows (block b) after = block_rows b after
part_rows (case test b) after = block_rows b (row 11 test 0 0 0 0 ∷ after)

abbrev pub WellFormedPart : Part → Type 0
WellFormedPart (value v) = Unit {0}
WellFormedPart (statement s) = WellFormedStatement s
WellFormedPart (block b) = WellFormed b
WellFormedPart (case test b) = WellFormed b

-- parts that stand side by side, the latest first
abbrev pub Forest : Type 0
Forest = List Part

abbrev pub forest_rows : Forest → List Row → List Row
forest_rows [] after = after
forest_rows (part ∷ before) after = forest_rows before (part_rows part after)

abbrev pub WellFormedForest : Forest → Type 0
WellFormedForest [] = Unit {0}
WellFormedForest (part ∷ before) = WellFormedPart part × WellFormedForest before

-- rows that are read as these parts
pub record ReadAsForest (list : List Row) (forest : Forest) : Type 0 where
  pub well_formed : WellFormedForest forest
  pub same_rows : forest_rows forest [] ≡ list

-- rows that are read as this tree
pub record ReadAs (list : List Row) (root : Statements) : Type 0 where
  pub well_formed : WellFormed root
  pub same_rows : rows root ≡ list

-- the tree whose rows stand in the lent buffer of an outcome
pub record TreeOf (outcome : Outcome) (root : Statements) : Type 0 where
  pub well_formed : WellFormed root
  pub number : length (rows root) ≡ outcome.rows
  pub held : words_of (rows root) ≡ take (outcome.rows * 6) outcome.buffer

-- there is such a tree, and no other: what the rows are read as
pub record OneTree (outcome : Outcome) : Type 0 where
  pub tree : Statements
  pub held : TreeOf outcome tree
  pub only : (other : Statements) → TreeOf outcome other → other ≡ tree
