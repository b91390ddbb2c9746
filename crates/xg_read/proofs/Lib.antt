pub mod Texts
pub mod Items
pub mod Names
pub mod EntryByEntry
pub mod FileAnswerLaws
pub mod Parts
mod Digits
