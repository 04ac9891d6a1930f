pub mod Queue
pub use Rattle.rt_model.specs.Rows
pub use Rattle.rt_model.specs.laws
