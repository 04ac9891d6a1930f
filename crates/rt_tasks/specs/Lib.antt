pub use Rattle.rt_model.specs.Parts
pub use Rattle.rt_model.specs.State
pub use Rattle.rt_model.specs.laws
pub use Rattle.rt_model.specs.steps
pub mod KeptTops
pub mod LockSet
pub mod Wakeups
