pub mod Places
pub mod Covered
pub mod Spans
pub mod Terms
