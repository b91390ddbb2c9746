pub mod Accepting
pub mod Accepted
pub mod FirstFault
pub mod FileLaws
pub mod Check
pub mod Checking
pub mod Shown
pub mod Laws
