-- steps of a reader, numbers and names
pub mod Chains
pub mod Numerals
-- words that stand for something
pub mod Solid
pub mod Cells
pub mod NameWords
pub mod Spelled
-- what operands, tail and line are read as
pub mod OperandsSaid
pub mod OperandsRead
pub mod Linked
pub mod TailWords
pub mod WholeLine
