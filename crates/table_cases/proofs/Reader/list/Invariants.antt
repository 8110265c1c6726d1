-- `Reader::list` ends, since each pair takes a byte at least, and it stores no more words than there are.
use Rattle.std.proofs.Common.{◌≤◌, length}
use Rattle.table_cases.proofs.Reader.list.Given as goal

abbrev pub invariant-loop-self : goal.invariant-loop-self
invariant-loop-self l = (length l.self.rest.now ≤ length l.initial.self.rest.now) × (l.count ≤ length l.words)

abbrev pub decreases-loop-self : goal.decreases-loop-self
decreases-loop-self l = length l.self.rest.now
