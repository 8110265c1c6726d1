-- `walk` leaves the queue of `walk_from`: the entry is named (`walked_first`), a step names the blocks of one place more (`walked_next`), and at the end no
-- place is left (`walked_all`). The queue has at most as many blocks as the table (`walked_few`), so that the measure falls.
use native.Mathlib.Omega.{arith}
use Rattle.order.proofs.WalkLaws.{walked_first, walked_few, walked_block, walked_next, walked_all, names_below}
use Rattle.order.proofs.block_walk.walk.Goals as goal

pub loop-row-init : goal.loop-row-init
loop-row-init c = walked_first c.args.table.words.now c.args.table.promise c.requires c.entry.ensures c.name.ensures

pub name_row-requires : goal.name_row-requires
name_row-requires c = let here = c.in-Some.ensures in walked_block _ _ _ c.loop-row.invariant here.0 here.1

pub overflow_add-place : goal.overflow_add-place
overflow_add-place c = omega (arith, c.in-Some.ensures.0, walked_few _ _ _ c.loop-row.invariant, c.args.table.promise.sized.limited.blocks)

pub loop-row-smaller : goal.loop-row-smaller
loop-row-smaller c = omega (arith, c.in-Some.ensures.0, walked_few _ _ _ c.loop-row.invariant)

pub loop-row-preserved : goal.loop-row-preserved
loop-row-preserved c =
    let here = c.in-Some.ensures in
    walked_next _ _ _ c.loop-row.invariant here.0 here.1 c.name_row.ensures (names_below _ c.args.table.promise _)

pub returns : goal.returns
returns c = walked_all _ _ _ c.loop-row.invariant c.in_default.ensures
