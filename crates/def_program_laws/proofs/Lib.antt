pub mod Heads
mod CertificateLineWidths
pub mod CertificatesAreShort
pub mod Solved
mod Exploitability
mod Sharp
mod ForBoth
mod Successes
mod Statuses
mod Upgraded
