pub mod Plan
pub mod Play
pub mod Reply
