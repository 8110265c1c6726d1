-- The invariant: the cases from `left` on are the fallthrough.
use Rattle.plain.proofs.CaseLaws.{Dropped}
use Rattle.plain.proofs.cases.Cases.proper_count.Given as goal

abbrev pub invariant-loop-left : goal.invariant-loop-left
invariant-loop-left l = Dropped l.self.table.words.now l.fallthrough l.self.first l.self.number l.left

abbrev pub decreases-loop-left : goal.decreases-loop-left
decreases-loop-left l = l.left
