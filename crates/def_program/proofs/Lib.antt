pub mod ReadBack
pub mod PokerFileIsRead
pub mod Batches
pub mod Meant
pub mod Played
pub mod Checked
