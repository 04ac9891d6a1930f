pub use Rattle.rt_model.specs.events
