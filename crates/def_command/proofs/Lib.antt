mod Arguments
pub mod CallsAreComputed
pub mod InRange
mod CommandAndOptionNames
mod WordByWord
