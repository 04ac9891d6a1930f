pub mod Paths
pub mod GoesOn
pub mod LinkAt
