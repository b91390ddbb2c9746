pub mod Items
pub mod Shares
pub mod Texts
