use Rattle.walk.proofs.StateLaws.{unschedule_empty, unschedule_other}
use mathlib.Core.Path.{refl, ◌∙◌}
use native.Mathlib.Omega.{arith}
use Rattle.walk.proofs.state.Walk.unschedule.Goals as goal

pub returns-then-self-eq0 : goal.returns-then-self-eq0
returns-then-self-eq0 c = unschedule_empty _ _ _ c.if-self-eq0.true ∙ rw c.after.ensures refl

pub returns-then-last-id : goal.returns-then-last-id
returns-then-last-id c = unschedule_other _ _ _ _ (omega (arith, c.if-self-eq0.false)) refl c.if-last-id.true ∙ rw c.after-then-last-id.ensures refl
