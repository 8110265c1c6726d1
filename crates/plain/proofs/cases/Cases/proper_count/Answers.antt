use Rattle.plain.proofs.CaseLaws.{dropped_more, dropped_end, dropped_all}
use Rattle.plain.proofs.cases.Cases.proper_count.Goals as goal

pub loop-left-preserved : goal.loop-left-preserved
loop-left-preserved c = dropped_more c.args.self.there c.loop-left.invariant c.loop-left-test.true c.case.ensures c.if-case-fallthrough.true

pub returns-else-case-fallthrough-clause-number_value : goal.returns-else-case-fallthrough-clause-number_value
returns-else-case-fallthrough-clause-number_value c =
    dropped_end c.args.self.there c.loop-left.invariant c.loop-left-test.true c.case.ensures c.if-case-fallthrough.false

pub returns-after-loop-left-clause-number_value : goal.returns-after-loop-left-clause-number_value
returns-after-loop-left-clause-number_value c = dropped_all c.loop-left.invariant c.loop-left-test.false
