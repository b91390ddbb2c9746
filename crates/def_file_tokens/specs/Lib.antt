pub mod Bytes
pub mod Texts
pub mod Spelling
pub mod Tokens
pub mod Laws
