use Rattle.walk.proofs.EntriesLaws.{Taken}
use Rattle.walk.proofs.state.Walk.unschedule_all.Given as goal

abbrev pub invariant-loop-left : goal.invariant-loop-left
invariant-loop-left l = Taken l.fn.self l.count l.left l.self

abbrev pub decreases-loop-left : goal.decreases-loop-left
decreases-loop-left l = l.left
