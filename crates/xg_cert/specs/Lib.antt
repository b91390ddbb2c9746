pub mod Writes
pub mod Writable
pub mod Printed
pub mod ReadCert
pub mod Answers
pub mod Items
