pub mod WeighedEnds
pub mod WeighedTraces
pub mod WeighedOutcomes
pub mod RunLaws
