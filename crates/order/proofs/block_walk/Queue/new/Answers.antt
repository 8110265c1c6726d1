use native.Mathlib.Omega.{arith}
use Rattle.order.proofs.QueueLaws.{queued_none}
use Rattle.order.proofs.block_walk.Queue.new.Goals as goal

pub invariant_of-result : goal.invariant_of-result
invariant_of-result c = (omega arith, queued_none 1024)
