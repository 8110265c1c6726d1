-- The invariant: the words so far are blocks, none of them twice, and have their flags.
use Rattle.std.proofs.Common.{take}
use Rattle.order.specs.Queue.{Queued}
use Rattle.order.proofs.list.is_permutation.Given as goal

abbrev pub invariant-loop-block : goal.invariant-loop-block
invariant-loop-block l = Queued l.blocks (take l.block-index l.list) l.found
