pub mod Queue
pub mod Write
pub mod Entry
pub mod Prints
