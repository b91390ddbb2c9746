pub mod Visits
pub mod GatheringOneStripe
pub mod GatheredIsPlainSum
pub mod Totals
