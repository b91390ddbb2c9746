pub mod Rising
pub mod Adding
pub mod Histories
pub mod Changing
pub mod Chaining
pub mod Viewed
