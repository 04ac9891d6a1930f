pub mod Paths
pub mod Named
pub mod Shared
pub mod Short
pub mod lines
pub mod LineLaws
