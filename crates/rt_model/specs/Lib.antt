-- the objects, the state, and the queue of a lock
pub mod Parts
pub mod State
pub mod Rows
-- named steps, events by families, and the two dispatches
pub mod steps
pub mod Effect
pub mod Choice
pub mod Path
pub mod Graph
pub mod Rounds
pub mod events
pub mod Rules
pub mod StateAfter
pub mod Footprint
pub mod NextEvent
pub mod CanMove
-- runs, the order, which calls and phases there are, and the laws
pub mod Run
pub mod Order
pub mod CallKinds
pub mod laws
pub use Rattle.rt_base.specs.Script
pub use Rattle.rt_base.specs.Kind
