use native.Mathlib.Omega.{arith}
use Rattle.plain.proofs.TailLaws.{tail_beyond, tail_empty, tail_last}
use Rattle.plain.proofs.tail.tail_at.Goals as goal

pub returns-then-block-block_count : goal.returns-then-block-block_count
returns-then-block-block_count c = tail_beyond c.args.table.promise c.args.block (omega (arith, c.if-block-block_count.true, c.block_count.ensures))

pub returns-then-head-eq0 : goal.returns-then-head-eq0
returns-then-head-eq0 c = tail_empty c.block-head.ensures c.if-head-eq0.true

pub returns : goal.returns
returns c = tail_last c.block-head.ensures c.if-head-eq0.false c.tail_of.ensures
