-- The invariant: the blocks before `place` have named theirs.
use Rattle.std.proofs.Common.{[], ◌∷◌, ◌-◌}
use Rattle.table.specs.Words.{block_count}
use Rattle.table.specs.Table.{table_of}
use Rattle.order.proofs.WalkLaws.{Walked}
use Rattle.order.proofs.block_walk.walk.Given as goal

abbrev pub invariant-loop-row : goal.invariant-loop-row
invariant-loop-row l = Walked (table_of l.table.words.now) (block_count l.table.words.now) ((table_of l.table.words.now).entry ∷ []) l.queue l.place

abbrev pub decreases-loop-row : goal.decreases-loop-row
decreases-loop-row l = block_count l.table.words.now - l.place
