use native.Mathlib.Omega.{arith}
use Rattle.convert.proofs.SpanLaws.{place_block, place_instruction, place_rest}
use Rattle.convert.proofs.spans.old_place.Goals as goal

pub returns-then-at-first : goal.returns-then-at-first
returns-then-at-first c = rw (← c.block_count-blocks.ensures) (place_block _ _ _ (omega arith) c.if-at-first.true)

pub returns-then-at-first-2 : goal.returns-then-at-first-2
returns-then-at-first-2 c = rw (← c.block_count-blocks.ensures, ← c.instruction_count-instructions.ensures) (place_instruction _ _ _ (omega arith) c.if-at-first.false c.if-at-first-2.true)

pub returns : goal.returns
returns c = rw (← c.block_count-blocks.ensures, ← c.instruction_count-instructions.ensures) (place_rest _ _ _ (omega arith) c.if-at-first.false c.if-at-first-2.false)
