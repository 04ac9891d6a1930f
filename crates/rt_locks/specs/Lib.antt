pub mod OwnerCell
pub mod Top
pub use Rattle.rt_model.specs.Rows
pub use Rattle.rt_model.specs.State
pub use Rattle.rt_model.specs.steps
pub use Rattle.rt_model.specs.laws
