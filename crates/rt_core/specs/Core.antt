-- The value of a core: a state of the machine, and how many events led to it.
use Rattle.std.specs.Prelude.{ℕ, List}
use Rattle.rt_model.specs.Parts.{ThreadPart}
use Rattle.rt_model.specs.State.{State, Shared}

pub record Made : Type 0 where
  pub state : State
  pub made : ℕ

-- the state of these shared parts and threads
abbrev pub with_threads : Shared → List ThreadPart → State
with_threads sh threads = record { locks = sh.locks; readers = sh.readers; tasks = sh.tasks; threads = threads }
