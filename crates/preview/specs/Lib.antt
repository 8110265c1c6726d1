pub mod Entry
pub mod Prints
