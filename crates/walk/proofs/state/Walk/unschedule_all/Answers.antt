use Rattle.walk.proofs.EntriesLaws.{none_taken, one_taken, all_taken}
use native.Mathlib.Omega.{arith}
use mathlib.Core.Path.{refl}
use Rattle.walk.proofs.state.Walk.unschedule_all.Goals as goal

pub loop-left-init : goal.loop-left-init
loop-left-init c = none_taken _ _ c.requires.whole c.requires.there

pub loop-left-preserved : goal.loop-left-preserved
loop-left-preserved c = one_taken _ c.loop-left.invariant c.loop-left-test.true refl c.unscheduled.ensures

pub returns-clause-same : goal.returns-clause-same
returns-clause-same c = (all_taken c.loop-left.invariant c.loop-left-test.false).0

pub returns-clause-off : goal.returns-clause-off
returns-clause-off c = (all_taken c.loop-left.invariant c.loop-left-test.false).1

pub overflow_sub-last : goal.overflow_sub-last
overflow_sub-last c = omega (arith, c.loop-left.invariant.there, c.loop-left-test.true)

pub unscheduled-requires : goal.unscheduled-requires
unscheduled-requires c =
    let nonempty = c.loop-left.invariant.there in
    record { nonempty = omega (arith, nonempty, c.loop-left-test.true); read = refl; named = c.loop-left.invariant.whole.bounded.named _ (omega (arith, nonempty, c.loop-left-test.true)) }
