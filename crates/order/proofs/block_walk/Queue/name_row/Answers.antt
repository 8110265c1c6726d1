-- `name_row` names the blocks that the row names: one loop names those of its cases, the other the rest. `named_then` puts a name behind those before it, and
-- at the end the second loop's names behind the first's. Each block is below 1,024 (`below_at`, `below_more`), as `name_if` asks.
use native.Mathlib.Omega.{arith}
use mathlib.Core.Path.{◌≡◌, refl}
use mathlib.Core.List.{[], ◌∷◌}
use lib.ListN.{length, get_or, take, drop}
use lib.Seq.{take_all}
use Rattle.std.proofs.Common.{None}
use Rattle.table.specs.Table.{table_of}
use Rattle.table.specs.Lines.{case_blocks}
use Rattle.table.specs.Named.{present}
use Rattle.table.proofs.NamedLaws.{cases_next, present_next, below_at, below_more}
use Rattle.order.proofs.QueueLaws.{named_then}
use Rattle.order.proofs.block_walk.Queue.name_row.Goals as goal

pub loop-k-init : goal.loop-k-init
loop-k-init c = refl

pub case-requires : goal.case-requires
case-requires c = omega (arith, c.loop-k-test.true, c.named-named.ensures.within)

pub loop-k-preserved : goal.loop-k-preserved
loop-k-preserved c =
    let inside = c.named-named.ensures.within in
    let before = take c.loop-k.k (drop c.named-named.result.first_case (table_of c.args.table.words.now).cases) in
    rw (cases_next _ _ c.loop-k.k (omega (arith, inside, c.loop-k-test.true)) c.case.ensures)
    (named_then c.args.self.now (case_blocks before) (c.case.result.block ∷ []) c.loop-k.invariant c.name.ensures)

pub loop-block-init : goal.loop-block-init
loop-block-init c = refl

pub name_if-requires : goal.name_if-requires
name_if-requires c =
    let five : length c.named-named.result.blocks ≡ 5 = search in
    let named = c.named-named.ensures in
    below_more _ 1024 named.few _ (below_at _ c.named-named.result.blocks c.loop-block.block-index (omega (arith, five, c.loop-block-test.true)) named.below)

pub loop-block-preserved : goal.loop-block-preserved
loop-block-preserved c =
    let five : length c.named-named.result.blocks ≡ 5 = search in
    rw (present_next c.named-named.result.blocks c.loop-block.block-index (omega (arith, five, c.loop-block-test.true)))
    (named_then c.loop-k.self (present (take c.loop-block.block-index c.named-named.result.blocks)) (present (get_or c.named-named.result.blocks c.loop-block.block-index None ∷ []))
    c.loop-block.invariant c.name_if.ensures)

pub returns : goal.returns
returns c =
    let five : length c.named-named.result.blocks ≡ 5 = search in
    let named = c.named-named.ensures in
    let cases : c.loop-k.k ≡ c.named-named.result.cases = omega (arith, c.loop-k-test.false, c.loop-k.auto.k-end) in
    let blocks = take_all c.loop-block.block-index c.named-named.result.blocks (omega (arith, five, c.loop-block-test.false)) in
    rw named.are
    (named_then c.args.self.now (case_blocks (take c.named-named.result.cases (drop c.named-named.result.first_case (table_of c.args.table.words.now).cases))) (present c.named-named.result.blocks)
    (rw cases at c.loop-k.invariant) (rw blocks at c.loop-block.invariant))
