-- `table::words::instructions_begin` meets its contract.
use native.Mathlib.Omega.{arith}
use Rattle.table.specs.Words.{instructions_begin, blocks_begin}
use Rattle.table.proofs.words.instructions_begin.Goals as goal

pub returns : goal.returns
unfolding instructions_begin blocks_begin
returns c = omega arith
