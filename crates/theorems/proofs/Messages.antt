-- Each target on the control stack is one of the four kinds.
use Rattle.definition.specs.Context.{ControlFlowTarget, target_if, target_switch, target_case, target_loop}
use Rattle.theorems.specs.Messages.{IsKnown, an_if, a_switch, a_case, a_loop}

pub known : (target : ControlFlowTarget) → IsKnown target
known (target_if block) = an_if block
known (target_switch block) = a_switch block
known (target_case block) = a_case block
known (target_loop block continue_block loop_block) = a_loop block continue_block loop_block
