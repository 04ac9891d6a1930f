-- The blocking graph, its cycles, the law of the responsible walker, what leads to a task, and where one leads.
pub mod Turned
pub mod Standing
pub mod Along
pub mod Kept
pub mod Reaching
pub mod Back
pub mod Waiting
pub mod Rounds
pub mod Followed
