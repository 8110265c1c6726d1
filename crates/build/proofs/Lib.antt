pub mod EntryLaws
pub mod Demand3
pub mod OutcomeLaws
pub mod Sample
