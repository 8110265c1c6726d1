-- `table::words::words_needed` meets its contract.
use native.Mathlib.Omega.{arith}
use Rattle.table.specs.Words.{words_needed}
use Rattle.table.proofs.words.words_needed.Goals as goal

pub returns : goal.returns
unfolding words_needed
returns c = omega arith
