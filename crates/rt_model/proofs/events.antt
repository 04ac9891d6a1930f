-- How each kind of event comes about, and that its choice reads only what it touches, family by family.
pub mod Own
pub mod Acquire
pub mod Release
pub mod Readers
pub mod Wait
pub mod Taking
pub mod Walk
pub mod Confirm
pub mod Wakeups
