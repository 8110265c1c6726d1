-- The kinds of a target on the control stack.
use Rattle.std.specs.Prelude.{ℕ}
use Rattle.definition.specs.Context.{ControlFlowTarget, target_if, target_switch, target_case, target_loop}

-- one of the four that the Rust names
pub data IsKnown : ControlFlowTarget → Type 0 where
  an_if : (block : ℕ) → IsKnown (target_if block)
  a_switch : (block : ℕ) → IsKnown (target_switch block)
  a_case : (block : ℕ) → IsKnown (target_case block)
  a_loop : (block continue_block loop_block : ℕ) → IsKnown (target_loop block continue_block loop_block)
