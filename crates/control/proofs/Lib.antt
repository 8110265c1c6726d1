pub mod ContextLaws
pub mod SearchLaws
