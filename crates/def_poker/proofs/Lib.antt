pub mod Parts
pub mod Chances
pub mod Trees
pub mod Known
pub mod Visits
pub mod Numbers
pub mod Faultless
pub mod Cards
