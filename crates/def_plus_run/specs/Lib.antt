pub mod PlusRun
pub mod ThreeAlike
pub mod PlusLaws
pub mod VariantRun
pub mod VariantLaws
