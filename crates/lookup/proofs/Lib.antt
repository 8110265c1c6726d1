pub mod Searches
pub mod Answers
pub mod LoopLaws
pub mod Samples
