-- The named steps of which events are made.
pub mod Lock
pub mod Readers
pub mod Task
pub mod Thread
pub mod Chain
