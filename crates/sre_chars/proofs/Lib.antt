pub mod CategoryRows
pub mod GrowingLists
pub mod RisingLists
pub mod AsciiSteps
pub mod Seeks
pub mod Beginnings
pub mod TextPlaces
pub mod Terms
