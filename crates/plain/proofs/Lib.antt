pub mod TerminalLaws
pub mod EveryLaws
pub mod TailLaws
pub mod CaseLaws
pub mod NumberLaws
