pub mod RowLaws
pub mod CheckLaws
