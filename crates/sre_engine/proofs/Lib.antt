mod Terms
pub mod Leading
pub mod Starting
pub mod FirstSets
pub mod Steps
pub mod PrefixWays
pub mod Looking
pub mod Carrying
pub mod Doubled
pub mod Hinting
pub mod Spending
pub mod CountLaws
pub mod LeadingStarts
