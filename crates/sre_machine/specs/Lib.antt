pub mod Spending
pub mod Memos
pub mod Paying
pub mod Turns
pub mod Runners
pub mod EndlessRuns
pub mod AskedLists
pub mod Terms
