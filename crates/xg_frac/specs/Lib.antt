pub mod Parts
pub mod PartsBack
pub mod Scan
pub mod Wide
pub mod WideBack
