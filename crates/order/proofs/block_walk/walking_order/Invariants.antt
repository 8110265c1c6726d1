-- The invariant: the blocks below `block` have been put at the end.
use Rattle.std.proofs.Common.{◌≡◌}
use Rattle.table.specs.Table.{rows_from}
use Rattle.renaming.specs.Order.{with_named}
use Rattle.order.proofs.block_walk.walking_order.Given as goal

abbrev pub invariant-loop-block : goal.invariant-loop-block
invariant-loop-block l = l.queue ≡ with_named l.initial.queue (rows_from 0 l.block)
