-- `table_check::other_tables::operand_columns` meets its contract.
use mathlib.Core.Path.{refl}
use Rattle.table.specs.Check.{operand_rules, place}
use Rattle.table_check.proofs.RowLaws.{in_limits}
use Rattle.table.proofs.RuleLaws.{no_operation, past}
use Rattle.table_check.proofs.other_tables.operand_columns.Goals as goal

pub returns-in-0 : goal.returns-in-0
unfolding operand_rules place
returns-in-0 c = rw c.in-0.is (in_limits _ 3 _ _ c.operands.ensures refl)

pub returns-in-1 : goal.returns-in-1
unfolding operand_rules place
returns-in-1 c = rw c.in-1.is (in_limits _ 3 _ _ c.operands-in-1.ensures (simp c.place_count-places.ensures))

pub returns-in-2 : goal.returns-in-2
unfolding operand_rules place
returns-in-2 c = rw c.in-2.is (in_limits _ 3 _ _ c.operands-in-2.ensures (simp c.place_count-places.ensures))

pub returns-in_default : goal.returns-in_default
returns-in_default c = rw (no_operation _ _ (past 3 _ c.in_default.in_default-own.rest)) (in_limits _ 3 _ _ c.operands-in_default.ensures refl)
