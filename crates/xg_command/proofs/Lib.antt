mod SplitAtFirstEquals
mod OptionWord
