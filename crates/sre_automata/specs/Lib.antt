pub mod Told
pub mod Terms
