use mathlib.Core.Path.{sym, ◌∙◌}
use Rattle.table_check.proofs.RowLaws.{rows_last, rows_on, rows_off}
use Rattle.table_check.proofs.rows.check_rows.Goals as goal

pub returns-in-Some : goal.returns-in-Some
returns-in-Some g c ws rules f = sym (c.loop-row.invariant ws rules f ∙ rows_off ws rules _ _ _ f _ c.loop-row-test.true c.in-Some.ensures)

pub loop-row-preserved : goal.loop-row-preserved
loop-row-preserved g c ws rules f = c.loop-row.invariant ws rules f ∙ rows_on ws rules _ _ _ f _ c.loop-row-test.true c.in_default.ensures

pub returns : goal.returns
returns g c ws rules f = sym (c.loop-row.invariant ws rules f ∙ rows_last ws rules _ _ _ f _ c.loop-row-test.false)
