-- `Reader::number` passes over a byte at least: each step leaves fewer bytes.
use Rattle.std.proofs.Common.{◌≤◌, length}
use Rattle.table_cases.proofs.Reader.number.Given as goal

abbrev pub invariant-loop-byte : goal.invariant-loop-byte
invariant-loop-byte l = length l.self.rest.now ≤ length l.initial.self.rest.now

abbrev pub decreases-loop-byte : goal.decreases-loop-byte
decreases-loop-byte l = length l.self.rest.now
