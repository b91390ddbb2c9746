pub mod FirstPlans
pub mod Placing
