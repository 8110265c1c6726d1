-- `table::words::cases_begin_lem` meets its contract.
use native.Mathlib.Omega.{arith}
use Rattle.table.specs.Words.{cases_begin}
use Rattle.table.proofs.words.cases_begin.Goals as goal

pub returns : goal.returns
unfolding cases_begin
returns c = omega arith
