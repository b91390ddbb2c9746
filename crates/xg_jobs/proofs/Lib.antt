mod RowLemmas
mod RangeLemmas
pub mod GroupSums
mod PairWeights
pub mod Parts
pub mod PassOverGroup
mod PassOverLeaves
mod Columns
mod Counting
mod Placing
mod OneEntry
pub mod Greatest
pub mod TwoParts
mod Building
pub mod FormRows
mod StandingTrees
mod LinkedChildren
mod OnePassOverJobs
mod JobsAfterPasses
mod Ranging
pub mod TouchedJobs
pub mod Crews
pub mod NewRowsAreZero
pub mod RoundSums
pub mod SmallAmountsStay
