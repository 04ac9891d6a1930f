pub mod Cycle
pub use Rattle.rt_model.specs.Parts
pub use Rattle.rt_model.specs.State
pub use Rattle.rt_model.specs.Path
pub use Rattle.rt_model.specs.Graph
pub use Rattle.rt_model.specs.laws
