pub mod Heap
pub mod Slots
