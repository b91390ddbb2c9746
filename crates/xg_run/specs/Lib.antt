pub mod BothRead
pub mod ChecksEnd
pub mod RefusalLine
pub mod Endings
pub mod Concludes
pub mod Batches
