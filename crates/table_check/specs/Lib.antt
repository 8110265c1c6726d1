pub mod FoundBlocks
pub mod Found
