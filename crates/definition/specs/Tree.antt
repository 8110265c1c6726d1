-- Paper 01, "Tree rows": the tree of statements and values, and its rows, six words each, "parts come first, then the closing row".
-- A constructor has the name of its closing row's op; its arguments are the row's columns and its parts, the parts in the order of the rows.
use Rattle.std.specs.Prelude.{ℕ, suc, List, [], ◌∷◌, Bool, true, false}
use Rattle.std.proofs.Math.Option.{Option, none, some}
use Rattle.table.specs.declared.columns.Span.{Span}
use Rattle.table.specs.Words.{largest}

-- "kind (0 Implicit, 1 Labeled, 2 Unlabeled)"
pub data Kind : Type 0 where
  implicit labeled unlabeled : Kind

-- "values ops 1 to 3 and 5 to 8"; SEQ's instructions are INSTRs
mutual
  pub data Value : Type 0 where
    PLAIN : (instruction_row : ℕ) → Value
    LOAD : (place : ℕ) → Value
    UNDEF : (span : Span) → Value
    SEQ : (instructions : Instructions) → (id : ℕ) → (value : Value) → Value
    LOGICAL : (operator : ℕ) → (left right : Value) → Value
    COND : (test consequent alternate : Value) → Value
    OPTIONAL : (flag : ℕ) → (value : Value) → Value

  pub data Instructions : Type 0 where
    no_instructions : Instructions
    instruction : (id lvalue : ℕ) (span : Span) → (value : Value) → (rest : Instructions) → Instructions

-- "statements 4, 10 and 12 to 25". A BLOCK is a list of statements; SWITCH has its cases last first, as the rows have them.
-- A BREAK or CONTINUE has in `loops` the loops that it leaves before its target (M-107). An IF with no alternate has `present` false and an empty alternate. SCOPE is PRUNED where its flag says so
mutual
  pub data Statement : Type 0 where
    INSTR : (id lvalue : ℕ) (span : Span) → (value : Value) → Statement
    IF : (test id : ℕ) → (label : Option ℕ) → (consequent : Statements) → (present : Bool) → (alternate : Statements) → Statement
    SWITCH : (test id : ℕ) → (label : Option ℕ) → (cases : Cases) → Statement
    DOWHILE : (id : ℕ) → (label : Option ℕ) → (body : Statements) → (test : Value) → Statement
    WHILE : (id : ℕ) → (label : Option ℕ) → (test : Value) → (body : Statements) → Statement
    FOR : (id : ℕ) → (label : Option ℕ) → (init test : Value) → (update : Option Value) → (body : Statements) → Statement
    FOROF : (id : ℕ) → (label : Option ℕ) → (span : Span) → (init test : Value) → (body : Statements) → Statement
    FORIN : (id : ℕ) → (label : Option ℕ) → (span : Span) → (init : Value) → (body : Statements) → Statement
    LABEL : (id : ℕ) → (label : Option ℕ) → (body : Statements) → Statement
    TRY : (id : ℕ) → (label : Option ℕ) → (binding : Option ℕ) → (body handler : Statements) → Statement
    SCOPE : (pruned : Bool) → (scope : ℕ) → (body : Statements) → Statement
    RETURN : (value id : ℕ) → Statement
    THROW : (value id : ℕ) → Statement
    BREAK : (target id : ℕ) → (kind : Kind) → (loops : ℕ) → Statement
    CONTINUE : (target id : ℕ) → (kind : Kind) → (loops : ℕ) → Statement

  pub data Statements : Type 0 where
    done : Statements
    ◌▸◌ : Statement → Statements → Statements

  pub data Cases : Type 0 where
    no_cases : Cases
    CASE : (test : ℕ) → (body : Statements) → (rest : Cases) → Cases

infixr 40 ◌▸◌
-- ---- rows

pub data Row : Type 0 where
  row : (op a b c d e : ℕ) → Row

-- the rows that have a span: its ends are two columns (paper 02, M-108). Nothing else takes a span apart
abbrev pub undef_row : Span → Row
undef_row span = row 3 span.from span.to 0 0 0

abbrev pub instr_row : (id lvalue : ℕ) → Span → Row
instr_row id lvalue span = row 4 id lvalue span.from span.to 0

abbrev pub for_of_row : (id label : ℕ) → Span → Row
for_of_row id label span = row 16 id label span.from span.to 0

abbrev pub for_in_row : (id label : ℕ) → Span → Row
for_in_row id label span = row 17 id label span.from span.to 0

-- "Label 65,535 is none", and so is a TRY's binding
abbrev pub or_none : Option ℕ → ℕ
or_none none = largest
or_none (some n) = n

abbrev pub flag_of : Bool → ℕ
flag_of true = 1
flag_of false = 0

abbrev pub kind_number : Kind → ℕ
kind_number implicit = 0
kind_number labeled = 1
kind_number unlabeled = 2

-- FOR's column "update present", of the update's block or its value
abbrev pub update_present : {A : Type 0} → Option A → ℕ
update_present none = 0
update_present (some update) = 1

abbrev pub count_instructions : Instructions → ℕ
count_instructions no_instructions = 0
count_instructions (instruction id lvalue span value rest) = suc (count_instructions rest)

abbrev pub count_statements : Statements → ℕ
count_statements done = 0
count_statements (statement ▸ rest) = suc (count_statements rest)

abbrev pub count_cases : Cases → ℕ
count_cases no_cases = 0
count_cases (CASE test body rest) = suc (count_cases rest)

-- each function gives the rows of a part, and behind them the rows `after`
abbrev mutual
  pub value_rows : Value → List Row → List Row
  value_rows (PLAIN instruction_row) after = row 1 instruction_row 0 0 0 0 ∷ after
  value_rows (LOAD place) after = row 2 place 0 0 0 0 ∷ after
  value_rows (UNDEF span) after = undef_row span ∷ after
  value_rows (SEQ instructions id value) after = instructions_rows instructions (value_rows value (row 5 (count_instructions instructions) id 0 0 0 ∷ after))
  value_rows (LOGICAL operator left right) after = value_rows left (value_rows right (row 6 operator 0 0 0 0 ∷ after))
  value_rows (COND test consequent alternate) after = value_rows test (value_rows consequent (value_rows alternate (row 7 0 0 0 0 0 ∷ after)))
  value_rows (OPTIONAL flag value) after = value_rows value (row 8 flag 0 0 0 0 ∷ after)

  pub instructions_rows : Instructions → List Row → List Row
  instructions_rows no_instructions after = after
  instructions_rows (instruction id lvalue span value rest) after = value_rows value (instr_row id lvalue span ∷ instructions_rows rest after)

abbrev pub update_rows : Option Value → List Row → List Row
update_rows none after = after
update_rows (some value) after = value_rows value after

abbrev mutual
  pub statement_rows : Statement → List Row → List Row
  statement_rows (INSTR id lvalue span value) after = value_rows value (instr_row id lvalue span ∷ after)
  statement_rows (IF test id label consequent present alternate) after =
      block_rows consequent (elim present [ true ↦ block_rows alternate (row 10 test 1 id (or_none label) 0 ∷ after) | false ↦ row 10 test 0 id (or_none label) 0 ∷ after ])
  statement_rows (SWITCH test id label cases) after = cases_rows cases (row 12 test (count_cases cases) id (or_none label) 0 ∷ after)
  statement_rows (DOWHILE id label body test) after = block_rows body (value_rows test (row 13 id (or_none label) 0 0 0 ∷ after))
  statement_rows (WHILE id label test body) after = value_rows test (block_rows body (row 14 id (or_none label) 0 0 0 ∷ after))
  statement_rows (FOR id label init test update body) after =
      value_rows init (value_rows test (update_rows update (block_rows body (row 15 id (or_none label) (update_present update) 0 0 ∷ after))))
  statement_rows (FOROF id label span init test body) after = value_rows init (value_rows test (block_rows body (for_of_row id (or_none label) span ∷ after)))
  statement_rows (FORIN id label span init body) after = value_rows init (block_rows body (for_in_row id (or_none label) span ∷ after))
  statement_rows (LABEL id label body) after = block_rows body (row 18 id (or_none label) 0 0 0 ∷ after)
  statement_rows (TRY id label binding body handler) after = block_rows body (block_rows handler (row 19 id (or_none label) (or_none binding) 0 0 ∷ after))
  statement_rows (SCOPE true scope body) after = block_rows body (row 21 scope 0 0 0 0 ∷ after)
  statement_rows (SCOPE false scope body) after = block_rows body (row 20 scope 0 0 0 0 ∷ after)
  statement_rows (RETURN value id) after = row 22 value id 0 0 0 ∷ after
  statement_rows (THROW value id) after = row 23 value id 0 0 0 ∷ after
  statement_rows (BREAK target id kind loops) after = row 24 target id (kind_number kind) loops 0 ∷ after
  statement_rows (CONTINUE target id kind loops) after = row 25 target id (kind_number kind) loops 0 ∷ after

  pub statements_rows : Statements → List Row → List Row
  statements_rows done after = after
  statements_rows (statement ▸ rest) after = statement_rows statement (statements_rows rest after)

  -- "9 BLOCK number of statements"
  pub block_rows : Statements → List Row → List Row
  block_rows done after = row 9 0 0 0 0 0 ∷ after
  block_rows (statement ▸ rest) after = statement_rows statement (statements_rows rest (row 9 (suc (count_statements rest)) 0 0 0 0 ∷ after))

  pub cases_rows : Cases → List Row → List Row
  cases_rows no_cases after = after
  cases_rows (CASE test body rest) after = block_rows body (row 11 test 0 0 0 0 ∷ cases_rows rest after)

-- "The last row is the root BLOCK."
abbrev pub rows : Statements → List Row
rows root = block_rows root []
