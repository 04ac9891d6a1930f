pub mod Spelling
pub mod Operands
pub mod Tail
pub mod EntryIn
pub mod WordsLeft
