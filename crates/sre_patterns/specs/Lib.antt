pub mod Patterns
pub mod Purposes
pub mod Settling
pub mod Covers
pub mod Looks
pub mod Terms
