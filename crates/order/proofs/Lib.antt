pub mod QueueLaws
pub mod WalkLaws
pub mod ListLaws
pub mod WriteLaws
pub mod EntryLaws
pub mod OrderedLaws
pub mod OneText
