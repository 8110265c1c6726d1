-- `new_numbers` gives each block of the list its place there. A step numbers one block more (`numbered_next`), and at the end all have their numbers
-- (`numbered_all`). A permutation's blocks are below 1,024 (`block_small`), and so is the index.
use Rattle.order.proofs.ListLaws.{block_small, numbered_none, numbered_next, numbered_all}
use Rattle.order.proofs.list.new_numbers.Goals as goal

pub loop-place-init : goal.loop-place-init
loop-place-init c = numbered_none _ search

pub bounds-new-block : goal.bounds-new-block
bounds-new-block c = block_small _ c.requires.few c.requires.permutation _ c.loop-place-test.true

pub loop-place-preserved : goal.loop-place-preserved
loop-place-preserved c = numbered_next _ c.requires.few c.requires.permutation _ c.loop-place-test.true c.loop-place.invariant

pub returns : goal.returns
returns c = numbered_all _ c.requires.few c.requires.permutation c.loop-place-test.false c.loop-place.invariant
