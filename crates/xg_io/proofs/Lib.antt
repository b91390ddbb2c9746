pub mod KnownBytesInPieces
pub mod Pieces
pub mod ResultCases
pub mod Pages
