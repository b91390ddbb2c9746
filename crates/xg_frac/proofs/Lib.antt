pub mod PartLemmas
pub mod PrintLemmas
pub mod ReadLemmas
pub mod ScanLemmas
pub mod WideLemmas
