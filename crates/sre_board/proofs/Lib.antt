pub mod CounterStates
pub mod Undo
pub mod ChainLaws
pub mod Choosing
pub mod InnermostRegion
pub mod Remembering
pub mod KeptSpots
mod OpenSpots
pub mod CountingBits
pub mod KeptStill
pub mod Rows
pub mod OneEntry
pub mod OwnedBits
pub mod AccountLaws
pub mod Prepared
mod Pages
pub mod EndsKept
pub mod EndsTold
pub mod Terms
