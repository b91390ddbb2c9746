pub mod ExactPlaces
pub mod Products
pub mod Roundings
