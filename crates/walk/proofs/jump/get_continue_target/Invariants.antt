use Rattle.walk.proofs.JumpLaws.{Continuing}
use Rattle.walk.proofs.jump.get_continue_target.Given as goal

abbrev pub invariant-loop-at : goal.invariant-loop-at
invariant-loop-at l = Continuing l.cx l.block l.at l.loops

abbrev pub decreases-loop-at : goal.decreases-loop-at
decreases-loop-at l = l.at
