pub mod PenniesOffers
pub mod SmallSums
pub mod ZeroWeights
