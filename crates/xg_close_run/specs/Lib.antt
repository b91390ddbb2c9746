pub mod Widths
pub mod Brackets
pub mod Said
pub mod Endings
pub mod Searched
