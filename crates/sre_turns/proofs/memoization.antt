-- Why what failed may be skipped: equivalent configurations fail alike, and bodies of atomic scopes end alike.
pub mod Asked
pub mod AlikeTurns
pub mod SameComes
pub mod Hopeless
pub mod Trying
pub mod OpenMarks
pub mod WaitingTwice
pub mod Bodies
pub mod BodyEnds
pub mod Straight
