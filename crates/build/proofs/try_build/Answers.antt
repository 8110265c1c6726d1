-- `build::try_build` meets its contract: its four ends, in order, are the definition's outcome of the walk's report: a refusal, 40, 41, or the rows and the lines.
use Rattle.std.proofs.lemmas.Result.{err_from_is_err_and}
use Rattle.build.proofs.EntryLaws.{refused_walk, overfull, overlined, fitting}
use Rattle.build.proofs.try_build.Goals as goal

pub returns-in_err-walked : goal.returns-in_err-walked
returns-in_err-walked c =
    let p = err_from_is_err_and c.from_residual.result c.from_residual.ensures.1 in
    rw (p.1, p.2) (refused_walk _ _ _ _ c.walk.auto.tree c.walk.auto.index _ c.in_err-walked.ensures)

pub returns-then-walked-tree : goal.returns-then-walked-tree
returns-then-walked-tree c = overfull _ _ _ _ c.walk.auto.tree c.walk.auto.index _ c.in_ok-walked.ensures c.if-walked-tree.true

pub returns-then-walked-index : goal.returns-then-walked-index
returns-then-walked-index c = overlined _ _ _ _ c.walk.auto.tree c.walk.auto.index _ c.in_ok-walked.ensures c.if-walked-tree.false c.if-walked-index.true

pub returns : goal.returns
returns c = fitting _ _ _ _ c.walk.auto.tree c.walk.auto.index _ c.in_ok-walked.ensures c.if-walked-tree.false c.if-walked-index.false
