pub mod Closing
mod TokenAt
mod NextByte
mod Escapes
mod Views
mod Marks
