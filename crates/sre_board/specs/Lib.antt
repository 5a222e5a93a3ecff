pub mod Choices
pub mod Failures
pub mod Accounts
pub mod Ends
pub mod Terms
