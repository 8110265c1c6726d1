-- `table::words::identifiers_begin` meets its contract.
use native.Mathlib.Omega.{arith}
use Rattle.table.specs.Words.{identifiers_begin}
use Rattle.table.proofs.words.identifiers_begin.Goals as goal

pub returns : goal.returns
unfolding identifiers_begin
returns c = omega arith
