use Rattle.std.proofs.Common.{arith, ◌∙◌, ◌+◌, ◌-◌}
use Rattle.tree_run.proofs.AnswerLaws.{before_is, back_more}
use Rattle.tree_run.proofs.row_walk.case_at.Goals as goal

pub loop-preserved : goal.loop-preserved
loop-preserved c =
    let a = c.args in
    let s = c.loop.counter + 1 in
    c.loop.invariant ∙ back_more a.tree.now.begin.now (a.place - c.loop.counter) (a.place - s) c.loop.row c.saturating_sub-row.result (omega arith)
    (c.saturating_sub-row.ensures ∙ rw c.begin.ensures (before_is _))
