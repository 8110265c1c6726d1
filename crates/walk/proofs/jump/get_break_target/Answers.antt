use Rattle.walk.proofs.JumpLaws.{break_on, break_nowhere, break_here}
use mathlib.Core.Option.{some}
use mathlib.Core.Path.{sym, ap, ◌∙◌}
use Rattle.walk.proofs.jump.get_break_target.Goals as goal

pub loop-at-preserved : goal.loop-at-preserved
loop-at-preserved c = break_on _ _ _ _ c.loop-at.invariant c.if-at-eq0.false (λ e. c.if-block.false (c.block.ensures ∙ e)) c.count_loop-loops.ensures

pub returns-then-at-eq0-clause-found : goal.returns-then-at-eq0-clause-found
returns-then-at-eq0-clause-found c = break_nowhere _ _ _ _ c.loop-at.invariant c.if-at-eq0.true

pub returns-then-block-clause-found : goal.returns-then-block-clause-found
returns-then-block-clause-found c visits =
    ap some c.break_to.ensures.1 ∙ break_here _ _ _ _ c.loop-at.invariant c.if-at-eq0.false (sym c.block.ensures ∙ c.if-block.true) visits
