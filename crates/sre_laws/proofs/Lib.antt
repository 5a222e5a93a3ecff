pub mod TwoRuns
pub mod Terms
