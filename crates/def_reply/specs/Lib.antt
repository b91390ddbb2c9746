pub mod Reply
pub mod Bounds
pub mod Laws
pub mod Bracket
pub mod Offers
pub mod Outcome
pub mod BracketLaws
pub mod OfferLaws
