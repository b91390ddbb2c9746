pub mod OneValue
pub mod RowRange
