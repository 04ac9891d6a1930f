-- A next event of a lawful state leaves a lawful state.
use Rattle.std.proofs.Common.{ℕ, suc}
use Rattle.rt_base.specs.declared.id.TaskId.{TaskId}
use Rattle.rt_model.specs.declared.event.Event.{Event}
use Rattle.rt_model.specs.State.{State}
use Rattle.rt_model.specs.StateAfter.{state_after}
use Rattle.rt_model.specs.laws.Lawful.{IsLawful}
use Rattle.rt_model.proofs.NextEvents.{IsNext}
use Rattle.rt_model.proofs.Named.{within}
use Rattle.rt_model.proofs.laws.Shape.{IsShaped-after, CallsFit-after}
use Rattle.rt_model.proofs.laws.Phases.{PhasesLaw-next}
use Rattle.rt_model.proofs.laws.Rows.{RowsLaw-next}
use Rattle.rt_model.proofs.laws.KeptTops.{KeptTopsLaw-next}
use Rattle.rt_model.proofs.laws.Queued.{QueuedLaw-next}
use Rattle.rt_model.proofs.laws.Owners.{OwnersLaw-next}
use Rattle.rt_model.proofs.laws.Readers.{ReadersLaw-next}
use Rattle.rt_model.proofs.laws.Migration.{MigrationLaw-next}
use Rattle.rt_model.proofs.laws.States.{StatesLaw-next}
use Rattle.rt_model.proofs.laws.AwakeTop.{AwakeTopLaw-next}
use Rattle.rt_model.proofs.laws.WokenWriter.{WokenWriterLaw-next}
use Rattle.rt_model.proofs.laws.Keys.{KeysLaw-next}
use Rattle.rt_model.proofs.laws.Walks.{WalksLaw-next}
use Rattle.rt_model.proofs.laws.OwnPriorities.{OwnPrioritiesLaw-next}
use Rattle.rt_model.proofs.laws.Responsible.{ResponsibleLaw-next}

pub IsLawful-next : (s : State) (made : ℕ) (t : TaskId) (e : Event) → IsLawful s made → IsNext s t e → IsLawful (state_after s e) (suc made)
IsLawful-next s made t e lawful next =
    let names = within s made t e lawful next in
    record {
      shape = IsShaped-after s e names lawful.shape;
      calls = CallsFit-after s e names.task lawful.calls;
      phases = PhasesLaw-next s made t e lawful next;
      rows = RowsLaw-next s made t e lawful next;
      kept = KeptTopsLaw-next s made t e lawful next;
      queued = QueuedLaw-next s made t e lawful next;
      owners = OwnersLaw-next s made t e lawful next;
      readers = ReadersLaw-next s made t e lawful next;
      migration = MigrationLaw-next s made t e lawful next;
      states = StatesLaw-next s made t e lawful next;
      awake = AwakeTopLaw-next s made t e lawful next;
      woken = WokenWriterLaw-next s made t e lawful next;
      keys = KeysLaw-next s made t e lawful next;
      walks = WalksLaw-next s made t e lawful next;
      priorities = OwnPrioritiesLaw-next s made t e lawful next;
      responsible = ResponsibleLaw-next s made t e lawful next;
    }
