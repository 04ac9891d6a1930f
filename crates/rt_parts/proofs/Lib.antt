pub mod Prefixes
pub mod OwnerParts
pub mod SharedSteps
pub mod TwoCells
pub mod Holds
pub mod Pins
pub mod Starting
pub mod Linking
