pub mod Ops
pub mod Rows
pub mod Refusal
pub mod Stack
pub mod Met
pub mod Outcome
pub mod WalkOutcome
pub mod Tested
