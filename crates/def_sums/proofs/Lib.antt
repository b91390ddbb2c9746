pub mod RingLaws
pub mod SumLaws
pub mod Ranges
pub mod FloorLaws
pub mod RisingLists
