pub mod Growing
pub mod PlayersFollowRounds
pub mod Offering
pub mod PartsOfBoard
pub mod GameFormIsOfTree
pub mod Writable
pub mod Left
pub mod TurnsFollowRounds
