pub mod Journal
pub mod Summed
pub mod SummaryParts
pub mod Spelled
pub mod OptionForms
pub mod Cli
pub mod MessageWritten
pub mod ToGo
