pub mod Schedule
pub mod Stored
pub mod MemFiles
pub mod MemSink
pub mod SureFiles
pub mod SureSink
