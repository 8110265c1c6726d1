-- A part of a tree, put out behind what is out already: its rows, and the lines of what it has (M-101). The contracts of the statement walk cite it.
use Rattle.std.specs.Prelude.{ℕ, List, [], ◌∷◌, ◌++◌, map, length}
use Rattle.std.proofs.Math.Option.{Option, none, some}
use Rattle.definition.specs.Index.{label_of, labelled_by, in_parts, in_list, in_cases, Line, line_of}
use Rattle.definition.specs.Output.{Output, ◌⊕◌, statement_out, block_row}
use Rattle.definition.specs.Tree.{Statement, Statements, Cases, Row, statements_rows, cases_rows, count_statements}

unfoldable pub statements_out : Statements → List Row
statements_out s = statements_rows s []

unfoldable pub cases_out : Cases → List Row
cases_out s = cases_rows s []

abbrev pub lines_in : ℕ → Statements → List Line
lines_in first s = map line_of (in_list first s)

abbrev pub lines_of : ℕ → Statement → List Line
lines_of first s = map line_of (in_parts first s ++ labelled_by (label_of s) first s)

abbrev pub list_put : Output → Statements → Output
list_put R s = record { rows = R.rows ++ statements_out s; lines = R.lines ++ lines_in (length R.rows) s }

-- a nested list and its BLOCK row
abbrev pub block_put : Output → Statements → Output
block_put R s = list_put R s ⊕ (block_row (count_statements s) ∷ [])

abbrev pub cases_put : Output → Cases → Output
cases_put R s = record { rows = R.rows ++ cases_out s; lines = R.lines ++ map line_of (in_cases (length R.rows) s) }

abbrev pub statement_put : Output → Statement → Output
statement_put R s = record { rows = R.rows ++ statement_out s; lines = R.lines ++ lines_of (length R.rows) s }

-- a terminal's statement, if it has one
abbrev pub step_put : Output → Option Statement → Output
step_put R none = R ⊕ []
step_put R (some s) = statement_put R s
