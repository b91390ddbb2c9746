pub mod Form
pub mod Laws
pub mod FaultLaws
pub mod First
pub mod Offends
