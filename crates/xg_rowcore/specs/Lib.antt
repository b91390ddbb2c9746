pub mod Amounts
pub mod Chains
pub mod Names
pub mod Packets
pub mod Stripes
