pub mod Driver
pub mod Entry
