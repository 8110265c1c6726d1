-- `main` ends, since each list takes a byte at least.
use Rattle.std.proofs.Common.{◌≡◌, length}
use Rattle.table_cases.proofs.main.Given as goal

abbrev pub invariant-loop-reader : goal.invariant-loop-reader
invariant-loop-reader l = 45200 ≡ length l.words

abbrev pub decreases-loop-reader : goal.decreases-loop-reader
decreases-loop-reader l = length l.reader.rest.now
