-- The measure of the walk's cycle of calls: the levels of depth left, and the place within a level.
use Prim.Native.Nat.{◌*◌, ◌+◌}
use Rattle.values.proofs.value_walk.+walk.Given as goal

abbrev pub decreases-logical_value : goal.decreases-logical_value
decreases-logical_value l = l.levels * 5 + 2

abbrev pub decreases-maybe_throw_value : goal.decreases-maybe_throw_value
decreases-maybe_throw_value l = l.levels * 5 + 1

abbrev pub decreases-optional_value : goal.decreases-optional_value
decreases-optional_value l = l.levels * 5 + 2

abbrev pub decreases-sequence_value : goal.decreases-sequence_value
decreases-sequence_value l = l.levels * 5 + 2

abbrev pub decreases-ternary_value : goal.decreases-ternary_value
decreases-ternary_value l = l.levels * 5 + 2

abbrev pub decreases-then_fallthrough : goal.decreases-then_fallthrough
decreases-then_fallthrough l = l.levels * 5 + 4

abbrev pub decreases-visit_test_block : goal.decreases-visit_test_block
decreases-visit_test_block l = l.levels * 5 + 1

abbrev pub decreases-visit_value_block : goal.decreases-visit_value_block
decreases-visit_value_block l = l.levels * 5 + 0

abbrev pub decreases-visit_value_block_terminal : goal.decreases-visit_value_block_terminal
decreases-visit_value_block_terminal l = l.levels * 5 + 3
