pub mod Layout
pub mod OwnerWord
pub mod ReaderWord
