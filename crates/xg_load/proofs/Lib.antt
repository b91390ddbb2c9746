pub mod Heads
pub mod Loaded
pub mod NoFault
mod Poker
mod Quoted
pub mod TextIsTold
pub mod WrittenLineIsSaid
