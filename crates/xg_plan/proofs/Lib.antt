pub mod ReplyLemmas
pub mod ShareLemmas
pub mod PlaceLemmas
pub mod DealLemmas
pub mod AddLemmas
pub mod CheckLemmas
