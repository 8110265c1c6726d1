pub mod Dot
pub mod Answer
pub mod Prints
