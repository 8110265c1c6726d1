use Rattle.tree_check.specs.Takes.{sort_of}
use Rattle.tree_check.proofs.PartLaws.{Seeking}
use Rattle.tree_check.proofs.words.Rows.parts_begin.Given as goal

abbrev pub invariant-loop : goal.invariant-loop
invariant-loop l = Seeking l.self.words.now l.self.begin.now (sort_of l.wanted) l.count l.fn.at l.counter l.at
