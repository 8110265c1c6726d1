-- `first_not_below` gives the first column whose word is not below its limit (`is_not_below`). A word that is below leaves the answer to the columns after it
-- (`is_below`); after the last limit there is none (`all_below`).
use mathlib.Core.Path.{sym, ◌∙◌}
use Rattle.table_check.proofs.RowLaws.{is_below, is_not_below, all_below}
use Rattle.table_check.proofs.rows.first_not_below.Goals as goal

pub returns-then-word-below : goal.returns-then-word-below
returns-then-word-below g c words read =
    sym (c.loop-i.invariant words read ∙ is_not_below words _ _ read _ c.loop-i-test.true c.word.ensures c.if-word-below.true)

pub loop-i-preserved : goal.loop-i-preserved
loop-i-preserved g c words read =
    c.loop-i.invariant words read ∙ is_below words _ _ read _ c.loop-i-test.true c.word.ensures c.if-word-below.false

pub returns : goal.returns
returns g c words read = sym (c.loop-i.invariant words read ∙ all_below words _ _ _ c.loop-i-test.false)
