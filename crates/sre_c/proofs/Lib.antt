pub mod Codes
pub mod Matches
pub mod Rows
pub mod Walks
pub mod Terms
