-- `table::words::places_begin` meets its contract.
use native.Mathlib.Omega.{arith}
use Rattle.table.specs.Words.{places_begin}
use Rattle.table.proofs.words.places_begin.Goals as goal

pub returns : goal.returns
unfolding places_begin
returns c = omega arith
