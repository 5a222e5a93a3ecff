pub mod Admitting
pub mod Requests
pub mod Runs
pub mod AsciiSets
pub mod Reads
pub mod Terms
