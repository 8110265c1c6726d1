pub mod Loops
pub mod Tails
pub mod Asked
pub mod Laws
pub mod Plainness
