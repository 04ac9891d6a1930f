-- All laws of a state.
use Rattle.std.specs.Prelude.{ℕ}
use Rattle.rt_model.specs.State.{State}
use Rattle.rt_model.specs.CallKinds.{CallsFit}
use Rattle.rt_model.specs.laws.Shape.{IsShaped}
use Rattle.rt_model.specs.laws.Phases.{PhasesLaw}
use Rattle.rt_model.specs.laws.Rows.{RowsLaw}
use Rattle.rt_model.specs.laws.Owners.{OwnersLaw}
use Rattle.rt_model.specs.laws.Readers.{ReadersLaw}
use Rattle.rt_model.specs.laws.Migration.{MigrationLaw}
use Rattle.rt_model.specs.laws.KeptTops.{KeptTopsLaw}
use Rattle.rt_model.specs.laws.Queued.{QueuedLaw}
use Rattle.rt_model.specs.laws.States.{StatesLaw}
use Rattle.rt_model.specs.laws.WokenWriter.{WokenWriterLaw}
use Rattle.rt_model.specs.laws.AwakeTop.{AwakeTopLaw}
use Rattle.rt_model.specs.laws.Keys.{KeysLaw}
use Rattle.rt_model.specs.laws.Walks.{WalksLaw}
use Rattle.rt_model.specs.laws.OwnPriorities.{OwnPrioritiesLaw}
use Rattle.rt_model.specs.laws.Responsible.{ResponsibleLaw}

-- the state is lawful, where so many events were made
pub record IsLawful (s : State) (made : ℕ) : Type 0 where
  pub shape : IsShaped s
  pub calls : CallsFit s
  pub phases : PhasesLaw s
  pub rows : RowsLaw s made
  pub kept : KeptTopsLaw s
  pub queued : QueuedLaw s
  pub owners : OwnersLaw s
  pub readers : ReadersLaw s
  pub migration : MigrationLaw s
  pub states : StatesLaw s
  pub awake : AwakeTopLaw s
  pub woken : WokenWriterLaw s
  pub keys : KeysLaw s
  pub walks : WalksLaw s
  pub priorities : OwnPrioritiesLaw s
  pub responsible : ResponsibleLaw s
