-- The laws that the proofs of the functions cite.
pub mod DecimalLaws
pub mod LentLaws
pub mod PlacedLaws
pub mod StepLaws
pub mod FormLaws
pub mod NameLaws
pub mod PartLaws
pub mod AnswerLaws
pub mod ReadingLaws
pub mod NumberLaws
pub mod ReadingSamples
pub mod WriteLaws
pub mod WriterLaws
pub mod PrintsLaws
