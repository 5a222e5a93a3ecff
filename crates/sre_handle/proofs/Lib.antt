pub mod Words
pub mod Terms
