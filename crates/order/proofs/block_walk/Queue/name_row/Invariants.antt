-- The invariants: the blocks of the first k case rows have been put at the end; then the first of the other blocks.
use Rattle.std.proofs.Common.{◌≡◌, take, drop}
use Rattle.table.specs.Table.{table_of}
use Rattle.table.specs.Lines.{case_blocks}
use Rattle.table.specs.Named.{present}
use Rattle.renaming.specs.Order.{with_named}
use Rattle.order.proofs.block_walk.Queue.name_row.Given as goal

abbrev pub invariant-loop-k : goal.invariant-loop-k
invariant-loop-k l = l.self ≡ with_named l.initial.self (case_blocks (take l.k (drop l.named.first_case (table_of l.table.words.now).cases)))

abbrev pub invariant-loop-block : goal.invariant-loop-block
invariant-loop-block l = l.self ≡ with_named l.initial.self (present (take l.block-index l.block-items))
