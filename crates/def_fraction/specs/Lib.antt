pub mod Digits
pub mod Divisors
pub mod Fraction
pub mod Laws
pub mod Literal
pub mod Order
pub mod Reading
pub mod Text
