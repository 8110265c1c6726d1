-- The targets other than a loop are taken together. In each case the fields are those that ContextLaws (`entered`, `scheduled`) takes for the definition's step.
use lib.ListN.{length}
use mathlib.Core.Path.{◌∙◌, ◌≡◌}
use native.Mathlib.Omega.{arith}
use Rattle.definition.specs.Context.{has, add}
use Rattle.control.proofs.ContextLaws.{entered, scheduled, unlooped_of}
use Rattle.control.proofs.Context.schedule.Goals as goal
use Rattle.control.proofs.Context.schedule.Goals.{in-Loop, in-If2}

pub returns : goal.returns
unfolding has add
returns c =
    let long : length c.args.self.stack ≡ 1152 = c.well_formed.0.1.1.1.1.1.1.1.1.1.1.0.1.0.1 in
    let given = scheduled c.args.target c.args.self c.requires.named c.requires.room (omega (arith, long, c.requires.room.len)) in
    elim c.match-target.branch [
      | in-Loop w ↦
          entered (rw w.in-Loop.is w.target-is) (rw w.in-Loop.is w.scheduled-is)
          (rw w.in-Loop.is (rw (w.busy-is, w.refusal-is) at c.then_some-self.ensures)) (rw w.in-Loop.is w.owns_loop-is) given
      | in-If2 w ↦
          let u = unlooped_of _ _ w.in-If.is in
          entered (w.target-is ∙ w.in-If.target-is) (rw u.into w.scheduled-is)
          (rw (u.blocked, u.reasons) (rw (w.busy-is, w.refusal-is) at c.then_some-self.ensures)) (rw u.owns_none w.owns_loop-is) given
    ]
