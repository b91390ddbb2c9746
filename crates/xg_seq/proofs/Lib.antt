pub mod RowLemmas
pub mod NumberLemmas
pub mod LeafLemmas
pub mod FormLemmas
pub mod ThreadLemmas
