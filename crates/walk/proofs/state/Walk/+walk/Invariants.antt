-- The measure of the walk's cycle of calls: the levels of depth left, then the visits left, then the place within an arm.
use Prim.Native.Nat.{◌*◌, ◌+◌, ◌-◌}
use Rattle.walk.specs.Around.{around_of}
use Rattle.walk.proofs.ListLaws.{Followed}
use Rattle.walk.proofs.CasesLaws.{Building}
use Rattle.walk.proofs.state.Walk.+walk.Given as goal

abbrev pub decreases-traverse_block : goal.decreases-traverse_block
decreases-traverse_block l = l.levels * 100000

abbrev pub decreases-visit_block : goal.decreases-visit_block
decreases-visit_block l = l.levels * 100000 + 5001

abbrev pub invariant-visit_block-loop-table : goal.invariant-visit_block-loop-table
invariant-visit_block-loop-table l = Followed l.table.words.now l.levels (around_of l.around) l.fn.block l.fn.self l.block l.count l.self

abbrev pub decreases-visit_block-loop-table : goal.decreases-visit_block-loop-table
decreases-visit_block-loop-table l = 8192 - l.self.tally.visits

abbrev pub decreases-visit_terminal : goal.decreases-visit_terminal
decreases-visit_terminal l = l.levels * 100000 + 5000

abbrev pub decreases-visit_if : goal.decreases-visit_if
decreases-visit_if l = l.levels * 100000 + 3

abbrev pub decreases-visit_label : goal.decreases-visit_label
decreases-visit_label l = l.levels * 100000 + 3

abbrev pub decreases-visit_while : goal.decreases-visit_while
decreases-visit_while l = l.levels * 100000 + 3

abbrev pub decreases-traverse_alternate : goal.decreases-traverse_alternate
decreases-traverse_alternate l = l.levels * 100000 + 1

abbrev pub decreases-traverse_loop : goal.decreases-traverse_loop
decreases-traverse_loop l = l.levels * 100000 + 1

abbrev pub decreases-visit_branch : goal.decreases-visit_branch
decreases-visit_branch l = l.levels * 100000 + 3

abbrev pub decreases-visit_switch : goal.decreases-visit_switch
decreases-visit_switch l = l.levels * 100000 + 3

abbrev pub decreases-traverse_cases : goal.decreases-traverse_cases
decreases-traverse_cases l = l.levels * 100000 + 2

abbrev pub invariant-traverse_cases-loop-left : goal.invariant-traverse_cases-loop-left
invariant-traverse_cases-loop-left l = Building l.table.words.now l.levels (around_of l.around) l.block l.end.fallthrough l.end.first l.end.number l.fn.self l.left l.built l.self

abbrev pub decreases-traverse_cases-loop-left : goal.decreases-traverse_cases-loop-left
decreases-traverse_cases-loop-left l = l.left

abbrev pub decreases-visit_do_while : goal.decreases-visit_do_while
decreases-visit_do_while l = l.levels * 100000 + 3

abbrev pub decreases-visit_for : goal.decreases-visit_for
decreases-visit_for l = l.levels * 100000 + 3

abbrev pub decreases-visit_for_of : goal.decreases-visit_for_of
decreases-visit_for_of l = l.levels * 100000 + 3

abbrev pub decreases-visit_for_in : goal.decreases-visit_for_in
decreases-visit_for_in l = l.levels * 100000 + 3

abbrev pub decreases-visit_try : goal.decreases-visit_try
decreases-visit_try l = l.levels * 100000 + 3

abbrev pub decreases-visit_scope : goal.decreases-visit_scope
decreases-visit_scope l = l.levels * 100000 + 3

abbrev pub decreases-traverse_consequent : goal.decreases-traverse_consequent
decreases-traverse_consequent l = l.levels * 100000 + 1
