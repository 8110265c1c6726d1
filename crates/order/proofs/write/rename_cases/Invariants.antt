-- The invariant: so many case rows have been renamed.
use Rattle.order.specs.Write.{CaseRows}
use Rattle.order.proofs.write.rename_cases.Given as goal

abbrev pub invariant-loop-case : goal.invariant-loop-case
invariant-loop-case l = CaseRows l.names l.initial.cases l.case l.cases
