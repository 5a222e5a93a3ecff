pub mod semantics
pub mod memoization
pub mod bound
pub mod Terms
pub mod Analyses
