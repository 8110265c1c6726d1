-- `walking_order` fills the list with the definition's order: behind those of the walk the loop names the blocks from 0 on (`row_named`, `in_order`).
-- The order is as long as the table has blocks (`order_long`), and so is the list, as `copy_to` asks.
use native.Mathlib.Omega.{arith}
use mathlib.Core.Path.{◌≡◌, refl, sym, ap, ◌∙◌}
use Rattle.std.proofs.Common.{length}
use Rattle.order.proofs.QueueLaws.{row_named}
use Rattle.order.proofs.WalkLaws.{in_order, order_long}
use Rattle.order.proofs.block_walk.walking_order.Goals as goal

pub loop-block-init : goal.loop-block-init
loop-block-init c = refl

pub loop-block-preserved : goal.loop-block-preserved
loop-block-preserved c = row_named _ c.loop-block.block c.loop-block.invariant c.name.ensures

pub copy_to-requires : goal.copy_to-requires
copy_to-requires c =
    let all : c.loop-block.block ≡ c.block_count-block-end.result = omega (arith, c.loop-block.auto.block-end, c.loop-block-test.false) in
    let whole = in_order c.args.table.words.now c.walk.ensures (rw (all, c.block_count-block-end.ensures) at c.loop-block.invariant) in
    c.requires ∙ sym (ap length whole ∙ order_long _ c.args.table.promise)

pub returns : goal.returns
returns c =
    let all : c.loop-block.block ≡ c.block_count-block-end.result = omega (arith, c.loop-block.auto.block-end, c.loop-block-test.false) in
    c.copy_to.ensures ∙ in_order c.args.table.words.now c.walk.ensures (rw (all, c.block_count-block-end.ensures) at c.loop-block.invariant)
