pub mod MarkLemmas
pub mod ZipLemmas
pub mod ActionLemmas
pub mod TableLemmas
pub mod TextLemmas
pub mod PairLemmas
pub mod FractionLemmas
