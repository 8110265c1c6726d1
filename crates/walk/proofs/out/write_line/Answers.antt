use native.Mathlib.Omega.{arith}
use Rattle.walk.proofs.OutLaws.{placed_part, placed_nowhere}
use Rattle.walk.proofs.out.write_line.Goals as goal

pub returns-then-at-index : goal.returns-then-at-index
returns-then-at-index c = placed_part _ _ _ _ _ _ _ c.if-at-index.true (omega arith) c.copy_from_slice.ensures.after

pub returns-else-at-index : goal.returns-else-at-index
returns-else-at-index c = placed_nowhere _ _ _ _ _ c.if-at-index.false
