pub mod Abstraction
pub mod Contract
pub mod Rule
