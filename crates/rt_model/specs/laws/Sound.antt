-- What every run of a script shows.
use Rattle.std.specs.Prelude.{◌≡◌, List, ◌++◌, length}
use Rattle.rt_base.specs.Script.{Script}
use Rattle.rt_model.specs.declared.event.Event.{Event}
use Rattle.rt_model.specs.State.{start}
use Rattle.rt_model.specs.Run.{after}
use Rattle.rt_model.specs.laws.Lawful.{IsLawful}
use Rattle.rt_model.specs.laws.Holders.{HoldersLaw}
use Rattle.rt_model.specs.laws.Deadlocks.{DeadlocksLaw}
use Rattle.rt_model.specs.laws.Interrupts.{InterruptsLaw}
use Rattle.rt_model.specs.laws.Cycles.{CyclesLaw}
use Rattle.rt_model.specs.laws.Wakeups.{WakeupsLaw}
use Rattle.rt_model.specs.laws.Priorities.{PriorityLaw}
use Rattle.rt_model.specs.laws.Calls.{CallsLaw}
use Rattle.rt_model.specs.laws.Cells.{CellsLaw}
use Rattle.rt_model.specs.laws.Rest.{RestLaw}

-- every state is lawful; who owns, writes and reads each lock is told by the events, and no writer is beside another or a reader; in
-- every state every priority is right; a deadlock answer has its cause, and so has an interrupted one; no cycle is passed over;
-- states, signals and what wakeups are answered are the flat machine's; each task's calls are made once and in order; who has a cell of
-- a local lock, or waits for it, is on its processor; in every state that is at rest priorities are right over the whole graph, and no
-- cycle stands
pub record IsSound (script : Script) (events : List Event) : Type 0 where
  pub lawful : (prefix rest : List Event) → prefix ++ rest ≡ events → IsLawful (after (start script) prefix) (length prefix)
  pub holders : HoldersLaw (start script) events
  pub priorities : (prefix rest : List Event) → prefix ++ rest ≡ events → PriorityLaw (after (start script) prefix)
  pub deadlocks : DeadlocksLaw (start script) events
  pub interrupts : InterruptsLaw (start script) events
  pub cycles : CyclesLaw (start script) events
  pub wakeups : WakeupsLaw script events
  pub calls : CallsLaw script events
  pub cells : (prefix rest : List Event) → prefix ++ rest ≡ events → CellsLaw script (after (start script) prefix)
  pub rest : (prefix rest : List Event) → prefix ++ rest ≡ events → RestLaw (after (start script) prefix)
