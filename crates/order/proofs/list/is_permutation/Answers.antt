-- `is_permutation` answers as the definition does. ListLaws has a law for each answer: the list has a wrong length, a word is no block, a block stands twice,
-- or every word has passed. Each step sets the flag of one block more (`stands_first`).
use Rattle.order.proofs.QueueLaws.{queued_none}
use Rattle.order.proofs.ListLaws.{wrong_length, no_block, stands_twice, stands_first, stands_once}
use Rattle.order.proofs.list.is_permutation.Goals as goal
use Rattle.order.proofs.list.is_permutation.Goals.{then-block-blocks-via-then-block-blocks, then-block-blocks-via-else-block-blocks+then-found-block}

pub returns-then-list-blocks : goal.returns-then-list-blocks
returns-then-list-blocks c = wrong_length _ _ c.if-list-blocks.true

pub loop-block-init : goal.loop-block-init
loop-block-init c = queued_none _

pub returns-then-block-blocks : goal.returns-then-block-blocks
returns-then-block-blocks c = elim c.then-block-blocks.branch [
  | then-block-blocks-via-then-block-blocks w ↦ no_block _ _ c.loop-block.block-index c.loop-block-test.true w.if-block-blocks.true
  | then-block-blocks-via-else-block-blocks+then-found-block w ↦
      stands_twice _ _ c.loop-block.block-index c.loop-block.invariant c.requires c.if-list-blocks.false c.loop-block-test.true w.if-block-blocks.false w.if-found-block.true
]

pub loop-block-preserved : goal.loop-block-preserved
loop-block-preserved c =
    stands_first _ _ c.loop-block.block-index c.loop-block.invariant c.requires c.if-list-blocks.false c.loop-block-test.true c.if-block-blocks.false c.if-found-block.false

pub returns : goal.returns
returns c = stands_once _ _ c.loop-block.block-index c.loop-block.invariant c.requires c.if-list-blocks.false c.loop-block-test.false
