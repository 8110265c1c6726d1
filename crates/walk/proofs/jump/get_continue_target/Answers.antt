use Rattle.walk.proofs.JumpLaws.{continue_on, continue_nowhere, continue_here}
use mathlib.Core.Option.{some}
use mathlib.Core.Path.{sym, ap, ◌∙◌}
use Rattle.walk.proofs.jump.get_continue_target.Goals as goal

pub loop-at-preserved : goal.loop-at-preserved
loop-at-preserved c = continue_on _ _ _ _ c.loop-at.invariant c.if-at-eq0.false (sym c.continues_at.ensures ∙ c.if-continues_at.false) c.count_loop-loops.ensures

pub returns-then-at-eq0 : goal.returns-then-at-eq0
returns-then-at-eq0 c = continue_nowhere _ _ _ _ c.loop-at.invariant c.if-at-eq0.true

pub returns-then-continues_at : goal.returns-then-continues_at
returns-then-continues_at c visits =
    ap some c.continue_to.ensures.1 ∙ continue_here _ _ _ _ c.loop-at.invariant c.if-at-eq0.false (sym c.continues_at.ensures ∙ c.if-continues_at.true) visits
