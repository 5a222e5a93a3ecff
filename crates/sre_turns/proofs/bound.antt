-- Why so many steps suffice: where the machine may be, what a step costs, and what memoized failures pay for.
pub mod SettledMoves
pub mod Faring
pub mod NestedMoves
pub mod NestedPlaces
pub mod HereMoves
pub mod FaringInRegions
pub mod Prices
pub mod TreeCosts
pub mod GrantedTolls
