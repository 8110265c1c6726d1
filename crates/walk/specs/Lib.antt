pub mod Around
pub mod Refusal
pub mod Answer
pub mod State
pub mod Out
pub mod Jump
pub mod Met
pub mod Report
