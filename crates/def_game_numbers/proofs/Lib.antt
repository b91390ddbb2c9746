pub mod Refusals
pub mod Weighing
pub mod Fractions
pub mod WholeSums
