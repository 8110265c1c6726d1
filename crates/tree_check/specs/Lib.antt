pub mod Takes
pub mod Found
pub mod Scan
pub mod Prints
pub mod Read
pub mod Good
pub mod Samples
