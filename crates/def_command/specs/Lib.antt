pub mod Words
pub mod Grammar
pub mod GrammarLaws
pub mod GrammarRows
pub mod Table
