pub mod RowLaws
pub mod StackLaws
pub mod MetLaws
pub mod EndingLaws
pub mod ExtractLaws
pub mod FlattenLaws
pub mod WalkLaws
