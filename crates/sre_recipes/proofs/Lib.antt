pub mod Cuts
pub mod Steps
pub mod Adjoining
pub mod Written
pub mod Following
pub mod Telling
pub mod Passing
pub mod Terms
