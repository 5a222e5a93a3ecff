pub mod Parts
pub mod Errors
pub mod Checked
pub mod Writing
pub mod Emitted
pub mod Block
pub mod Emitting
