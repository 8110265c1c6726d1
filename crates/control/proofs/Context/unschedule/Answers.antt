-- A loop is split by whether it owns its loop block; ContextLaws (`left`, `unscheduled`) makes the definition's step of the fields.
use Rattle.definition.specs.Context.{unscheduled_by, remove}
use Rattle.control.proofs.ContextLaws.{left, unscheduled, unlooped_of}
use Rattle.control.proofs.Context.unschedule.Goals as goal
use Rattle.control.proofs.Context.unschedule.Goals.{in-Loop+then-last, in-Loop+else-last, in-If2}

pub returns : goal.returns
unfolding unscheduled_by remove
returns c =
    let given = unscheduled c.args.self c.args.last c.requires in
    elim c.match-last.branch [
      | in-Loop+then-last w ↦ left (rw (w.in-Loop.is, w.if-last.true) w.scheduled-is) given
      | in-Loop+else-last w ↦ left (rw (w.in-Loop.is, w.if-last.false) w.scheduled-is) given
      | in-If2 w ↦ left (rw (unlooped_of _ _ w.in-If.is).out w.scheduled-is) given
    ]
