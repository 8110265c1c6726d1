-- M-107: d is at most 128 in every row that the build makes.
use mathlib.Core.Path.{◌≡◌}
use Prim.Native.Nat.{ℕ}
use mathlib.Core.List.{List, []}
use mathlib.Core.Option.{Option, none, some}
use mathlib.Core.Bool.{true, false}
use Rattle.definition.specs.Tree.{Value, PLAIN, LOAD, UNDEF, SEQ, LOGICAL, COND, OPTIONAL, Instructions, no_instructions, instruction, Statement, INSTR}
use Rattle.definition.specs.Tree.{IF, SWITCH, DOWHILE, WHILE, FOR, FOROF, FORIN, LABEL, TRY, SCOPE, RETURN, THROW, BREAK, CONTINUE, Statements, done, ◌▸◌}
use Rattle.definition.specs.Tree.{Cases, no_cases, CASE, Row, value_rows, instructions_rows, update_rows, statement_rows, statements_rows}
use Rattle.definition.specs.Tree.{block_rows, cases_rows, rows}
use Rattle.definition.specs.Around.{Rule}
use Rattle.definition.specs.Build.{built}
use Rattle.definition.specs.Reading.{WellFormedStatement, WellFormed, WellFormedCases, JumpsWithin}
use Rattle.definition.proofs.TreeInBuffer.{one_tree}

-- values have no jump
mutual
  value_within : (v : Value) (after : List Row) → JumpsWithin after → JumpsWithin (value_rows v after)
  value_within (PLAIN r) after h = (tt, h)
  value_within (LOAD p) after h = (tt, h)
  value_within (UNDEF s) after h = (tt, h)
  value_within (SEQ is i v) after h = instructions_within is _ (value_within v _ (tt, h))
  value_within (LOGICAL o x y) after h = value_within x _ (value_within y _ (tt, h))
  value_within (COND t x y) after h = value_within t _ (value_within x _ (value_within y _ (tt, h)))
  value_within (OPTIONAL f v) after h = value_within v _ (tt, h)

  instructions_within : (is : Instructions) (after : List Row) → JumpsWithin after → JumpsWithin (instructions_rows is after)
  instructions_within no_instructions after h = h
  instructions_within (instruction i l s v rest) after h = value_within v _ (tt, instructions_within rest after h)

update_within : (u : Option Value) (after : List Row) → JumpsWithin after → JumpsWithin (update_rows u after)
update_within none after h = h
update_within (some v) after h = value_within v after h

mutual
  unfolding WellFormedStatement

  statement_within : (s : Statement) (after : List Row) → WellFormedStatement s → JumpsWithin after → JumpsWithin (statement_rows s after)
  statement_within (INSTR i l s v) after w h = value_within v _ (tt, h)
  statement_within (IF t i g c true a) after w h = block_within c _ w.1 (block_within a _ w.2 (tt, h))
  statement_within (IF t i g c false a) after w h = block_within c _ w.1 (tt, h)
  statement_within (SWITCH t i g cs) after w h = cases_within cs _ w.1 (tt, h)
  statement_within (DOWHILE i g b t) after w h = block_within b _ w.1 (value_within t _ (tt, h))
  statement_within (WHILE i g t b) after w h = value_within t _ (block_within b _ w.1 (tt, h))
  statement_within (FOR i g n t u b) after w h = value_within n _ (value_within t _ (update_within u _ (block_within b _ w.1 (tt, h))))
  statement_within (FOROF i g s n t b) after w h = value_within n _ (value_within t _ (block_within b _ w.1 (tt, h)))
  statement_within (FORIN i g s n b) after w h = value_within n _ (block_within b _ w.1 (tt, h))
  statement_within (LABEL i g b) after w h = block_within b _ w.1 (tt, h)
  statement_within (TRY i g n b k) after w h = block_within b _ w.2 (block_within k _ w.3 (tt, h))
  statement_within (SCOPE true n b) after w h = block_within b _ w (tt, h)
  statement_within (SCOPE false n b) after w h = block_within b _ w (tt, h)
  statement_within (RETURN v i) after w h = (tt, h)
  statement_within (THROW v i) after w h = (tt, h)
  statement_within (BREAK g i k l) after w h = (w, h)
  statement_within (CONTINUE g i k l) after w h = (w, h)

  statements_within : (s : Statements) (after : List Row) → WellFormed s → JumpsWithin after → JumpsWithin (statements_rows s after)
  statements_within done after w h = h
  statements_within (s ▸ rest) after w h = statement_within s _ w.0 (statements_within rest after w.1 h)

  block_within : (s : Statements) (after : List Row) → WellFormed s → JumpsWithin after → JumpsWithin (block_rows s after)
  block_within done after w h = (tt, h)
  block_within (s ▸ rest) after w h = statement_within s _ w.0 (statements_within rest _ w.1 (tt, h))

  cases_within : (cs : Cases) (after : List Row) → WellFormedCases cs → JumpsWithin after → JumpsWithin (cases_rows cs after)
  cases_within no_cases after w h = h
  cases_within (CASE t b rest) after w h = block_within b _ w.0 (tt, cases_within rest after w.1 h)

pub rows_within : (root : Statements) → WellFormed root → JumpsWithin (rows root)
rows_within root w = block_within root [] w tt

-- the rows that the build makes
pub built_within : (rule : Rule) (words : List ℕ) (lent lent_index : ℕ)
    → (accepts : (built rule words lent lent_index).code ≡ 0) → JumpsWithin (rows (one_tree rule words lent lent_index accepts).tree)
built_within rule words lent lent_index accepts = rows_within _ (one_tree rule words lent lent_index accepts).held.well_formed
