pub mod Rooms
pub mod Ends
pub mod Searches
