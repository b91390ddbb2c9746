pub mod Refused
pub mod FileAccepted
pub mod InNumbers
pub mod Accepted
pub mod Checked
