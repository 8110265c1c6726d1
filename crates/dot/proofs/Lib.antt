pub mod AnswerLaws
pub mod DotLaws
pub mod DrawnLaws
pub mod Samples
pub mod DrawingLaws
