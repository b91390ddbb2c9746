pub mod AnyLength
pub mod Faultless
pub mod TablesGoWithNodes
pub mod Fractions
pub mod WholeGame
pub mod Firsts
mod Tables
mod EntryAddsToTables
pub mod OneMore
pub mod FirstMet
pub mod FirstWith
pub mod Differs
pub mod EntryTests
pub mod EntryFaults
pub mod NoFault
pub mod WholeGames
