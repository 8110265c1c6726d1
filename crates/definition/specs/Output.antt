-- What is put out, by the walk's code and by the laws of rows and lines: a part's rows, behind what is out already.
use Rattle.std.specs.Prelude.{ℕ, suc, List, [], ◌∷◌, ◌++◌, Bool, true, false}
use Rattle.std.proofs.Math.Option.{Option, none, some}
use Rattle.table.specs.Table.{Table, instruction_at}
use Rattle.definition.specs.Index.{Line}
use Rattle.definition.specs.Tree.{Value, Statement, Row, row, value_rows, statement_rows, instr_row}

-- what is put out: rows of the tree and lines of its index, both in order
pub record Output : Type 0 where
  pub rows : List Row
  pub lines : List Line

abbrev pub no_output : Output
no_output = record { rows = []; lines = [] }

infixl 45 ◌⊕◌
-- rows behind what is out
abbrev pub ◌⊕◌ : Output → List Row → Output
◌⊕◌ out more = record { rows = out.rows ++ more; lines = out.lines }

abbrev pub block_row : ℕ → Row
block_row count = row 9 count 0 0 0 0

unfoldable pub value_out : Value → List Row
value_out value = value_rows value []

unfoldable pub update_out : Option Value → List Row
update_out none = []
update_out (some value) = value_out value

unfoldable pub statement_out : Statement → List Row
statement_out statement = statement_rows statement []

-- a jump's statement, if it has one
abbrev pub jump_out : Option Statement → List Row
jump_out none = []
jump_out (some statement) = statement_out statement

abbrev pub added : Option Statement → ℕ → ℕ
added none count = count
added (some statement) count = suc count

unfoldable pub instructions_out : Table → List ℕ → List Row
instructions_out t [] = []
instructions_out t (r ∷ rs) = row 1 r 0 0 0 0 ∷ instr_row (instruction_at t r).id (instruction_at t r).lvalue (instruction_at t r).span ∷ instructions_out t rs

abbrev pub scope_row : Bool → ℕ → Row
scope_row true number = row 21 number 0 0 0 0
scope_row false number = row 20 number 0 0 0 0

-- a statement's line (M-101), if it has a label, where its closing row is the next to be put out
abbrev pub line_out : Option ℕ → (first closing : ℕ) → List Line
line_out none first closing = []
line_out (some taken) first closing = record { label = taken; first = first; closing = closing } ∷ []
