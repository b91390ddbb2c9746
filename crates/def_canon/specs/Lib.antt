pub mod Canon
pub mod Described
pub mod Laws
pub mod Writable
pub mod PokerLaws
pub mod Poker
pub mod PokerRows
