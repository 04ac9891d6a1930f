-- What all states of a script's runs keep: an entry of each next event is well formed.
use Rattle.std.proofs.Common.{◌≡◌, ℕ, suc, ◌<◌, List, [], ◌∷◌, Some}
use Rattle.std.specs.Prelude.{◌^◌}
use Rattle.rt_base.specs.Script.{Script, IsScript}
use Rattle.rt_model.specs.declared.event.Event.{Event}
use Rattle.rt_model.specs.State.{State, start}
use Rattle.rt_model.specs.StateAfter.{state_after}
use Rattle.rt_model.specs.NextEvent.{next_event}
use Rattle.rt_model.specs.Run.{after, IsRun}
use Rattle.rt_model.specs.laws.Shape.{IsOf}
use Rattle.rt_model.specs.laws.Lawful.{IsLawful}
use Rattle.rt_model.proofs.Lawful.{IsLawful-next}
use Rattle.rt_model.proofs.NextEvents.{choice}
use Rattle.rt_model.proofs.Prefixes.{next-task}
use Rattle.rt_model.proofs.Starts.{IsLawful-start, IsOf-start}
use Rattle.rt_model.proofs.laws.Shape.{IsOf-after}
use Rattle.rt_events.specs.Entry.{entry}
use Rattle.rt_events.specs.WellFormed.{IsWellFormed}
use Rattle.rt_core.proofs.Boosts.{boost-within}
use Rattle.rt_core.proofs.EntryWellFormed.{well_formed}

-- a lawful state of the script
pub record IsReached (script : Script) (s : State) : Type 0 where
  pub is : IsOf script s
  pub made : ℕ
  pub lawful : IsLawful s made

pub reached-start : (script : Script) → IsScript script → IsReached script (start script)
reached-start script valid = record { is = IsOf-start script; made = 0; lawful = IsLawful-start script valid }

pub reached-next : (script : Script) (s : State) (e : Event) → IsReached script s → next_event s e.task ≡ Some e → IsReached script (state_after s e)
reached-next script s e here next = record {
  is = IsOf-after script s e (next-task s e.task e next) here.is;
  made = suc here.made;
  lawful = IsLawful-next s here.made e.task e here.lawful (choice s e.task e here.lawful.calls here.lawful.phases next);
}

pub reached-after : (script : Script) (s : State) (events : List Event) → IsReached script s → IsRun s events → IsReached script (after s events)
reached-after script s [] here run = here
reached-after script s (e ∷ es) here run = reached-after script (state_after s e) es (reached-next script s e here run.0) run.1

pub entry-fits : (script : Script) (s : State) (e : Event) (number : ℕ) → IsReached script s → next_event s e.task ≡ Some e → number < 2 ^ 64 → IsWellFormed script (entry number e)
entry-fits script s e number here next few =
    let is = choice s e.task e here.lawful.calls here.lawful.phases next in
    well_formed script number s here.made e.task e here.is few here.lawful is (boost-within s here.made e.task e here.lawful is)
