-- The families of events: when each kind comes, what it touches, and what it does.
pub mod Acquire
pub mod Wait
pub mod Release
pub mod Walk
pub mod Readers
pub mod Wakeups
pub mod Own
