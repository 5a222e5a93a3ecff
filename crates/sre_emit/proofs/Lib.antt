pub mod ItemsChecked
pub mod Written
pub mod ItemsWritten
pub mod Blocks
pub mod HandedOut
pub mod Terms
