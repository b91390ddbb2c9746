pub mod Run
pub mod WeighedLaws
pub mod Laws
