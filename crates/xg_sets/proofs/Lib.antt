pub mod NextNodeLemmas
pub mod NotingLemmas
pub mod PathLemmas
pub mod ShownLemmas
