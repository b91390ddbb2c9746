pub mod DivisorLemmas
pub mod FractionLemmas
pub mod JudgeLemmas
pub mod LiteralLemmas
pub mod NumberLemmas
pub mod OrderLemmas
pub mod TextLemmas
