pub mod Cuts
pub mod Multiples
pub mod WeightLaws
pub mod PlusSums
pub mod EachPlusRoundFollows
pub mod PlusRegrets
