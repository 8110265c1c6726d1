pub mod Numbered
pub mod Ran
pub mod Given
pub mod Layout
pub mod Machine
pub mod Links
pub mod Acts
