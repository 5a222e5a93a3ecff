pub mod Repeating
pub mod Terms
