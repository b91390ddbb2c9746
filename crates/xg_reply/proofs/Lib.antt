pub mod PlacedSets
pub mod FirstBest
pub mod Passes
pub mod AgainstPlans
pub mod RowSizes
