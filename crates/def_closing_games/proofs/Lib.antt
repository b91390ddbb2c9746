pub mod Signs
pub mod Pays
pub mod Files
pub mod Printed
pub mod Payoffs
pub mod Promises
