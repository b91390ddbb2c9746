pub mod PlusRuns
pub mod VariantRuns
