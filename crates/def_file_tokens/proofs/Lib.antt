pub mod TextLemmas
pub mod TokenLemmas
pub mod PieceLemmas
pub mod ByteLemmas
