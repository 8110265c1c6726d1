-- `chosen` goes where the definition's `chosen_by` does. The two answers are for a SWITCH: into the case of that number (`case_there`), or out of the SWITCH
-- where it has no such case (`case_beyond`). The other arms need no answer.
use Rattle.std.proofs.Common.{refl, []}
use Rattle.tree_run.specs.Abstraction.{links_in, chosen_by}
use Rattle.tree_run.proofs.AnswerLaws.{case_there, case_beyond}
use Rattle.tree_run.proofs.row_walk.chosen.Goals as goal

pub returns-then-given-cases : goal.returns-then-given-cases
unfolding chosen_by
returns-then-given-cases c =
    let a = c.args in
    rw (c.in-Pick.is, c.case_at.ensures, case_there (links_in a.tree.now) a.tree.now.begin.now refl c.in-Pick.cases c.in-Pick.first a.given [] c.if-given-cases.true) refl

pub returns-else-given-cases : goal.returns-else-given-cases
unfolding chosen_by
returns-else-given-cases c =
    let a = c.args in
    rw (c.in-Pick.is, case_beyond (links_in a.tree.now) c.in-Pick.cases c.in-Pick.first a.given c.if-given-cases.false) refl
