pub mod Views
pub mod Amounts
pub mod Rule
pub mod Steps
pub mod Laws
pub mod CoreSteps
