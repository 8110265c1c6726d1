use Rattle.walk.proofs.StateLaws.{reach_missing, reach_none, reach_other}
use Rattle.definition.specs.Result.{ok}
use Rattle.control.specs.Abstraction.{context_of}
use mathlib.Core.Path.{refl, sym, ap, ◌∙◌}
use Rattle.walk.proofs.state.Walk.unless_unreachable.Goals as goal

pub returns-in-Absent : goal.returns-in-Absent
unfolding context_of
returns-in-Absent c = reach_missing _ (rw c.in-Absent.is at c.terminal.ensures) ∙ rw c.after.ensures refl

pub returns-in-Unreachable : goal.returns-in-Unreachable
returns-in-Unreachable c = (reach_none _ (rw c.in-Unreachable.is at c.terminal.ensures), tt)

pub returns-in_default : goal.returns-in_default
returns-in_default c = (
  reach_other _ c.terminal.result c.terminal.ensures c.in_default.not-Absent c.in_default.not-Unreachable ∙ ap ok (sym c.unless_scheduled.ensures.label),
  c.unless_scheduled.ensures.there,
)
