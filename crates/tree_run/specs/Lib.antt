pub mod Answer
pub mod Abstraction
pub mod Holds
pub mod Given
pub mod Good
pub mod Prints
pub mod Samples
