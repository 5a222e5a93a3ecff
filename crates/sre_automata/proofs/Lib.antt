pub mod Leftmost
pub mod Needles
pub mod Terms
