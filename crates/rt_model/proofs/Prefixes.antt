-- Every state along a run from a lawful one is lawful.
use Rattle.std.proofs.Common.{◌≡◌, ℕ, suc, ◌+◌, ◌<◌, List, [], ◌∷◌, ◌++◌, length, subst, sym, refl, arith, Option, Some, None}
use Rattle.rt_base.specs.Script.{Script}
use Rattle.rt_base.specs.declared.call.Call.{Call}
use Rattle.rt_base.specs.declared.id.TaskId.{TaskId}
use Rattle.rt_model.specs.declared.event.Event.{Event}
use Rattle.rt_model.specs.Parts.{call_of}
use Rattle.rt_model.specs.State.{State, shared, thread_part}
use Rattle.rt_model.specs.NextEvent.{event_of, next_event}
use Rattle.rt_model.specs.StateAfter.{state_after}
use Rattle.rt_model.specs.Run.{after, IsRun}
use Rattle.rt_model.specs.laws.Lawful.{IsLawful}
use Rattle.rt_model.specs.laws.Shape.{IsOf}
use Rattle.rt_model.proofs.Calling.{at_call}
use Rattle.rt_model.proofs.NextEvents.{IsNext, choice}
use Rattle.rt_model.proofs.laws.Shape.{IsOf-after}
use Rattle.rt_model.proofs.Lawful.{IsLawful-next}

-- ---- runs in two parts

-- a run up to the end of a prefix, and from there on
pub run-prefix : (s : State) (prefix rest : List Event) → IsRun s (prefix ++ rest) → IsRun s prefix
run-prefix s [] rest run = tt
run-prefix s (e ∷ prefix) rest run = (run.0, run-prefix (state_after s e) prefix rest run.1)

pub run-rest : (s : State) (prefix rest : List Event) → IsRun s (prefix ++ rest) → IsRun (after s prefix) rest
run-rest s [] rest run = run
run-rest s (e ∷ prefix) rest run = run-rest (state_after s e) prefix rest run.1

-- ---- lawful states

-- a run's first event is the next one of its task
pub run-next : (s : State) (made : ℕ) (e : Event) (rest : List Event) → IsLawful s made → IsRun s (e ∷ rest) → IsNext s e.task e
run-next s made e rest lawful run = choice s e.task e lawful.calls lawful.phases run.0

-- and leaves a lawful state
pub run-lawful : (s : State) (made : ℕ) (e : Event) (rest : List Event) → IsLawful s made → IsRun s (e ∷ rest) → IsLawful (state_after s e) (suc made)
run-lawful s made e rest lawful run = IsLawful-next s made e.task e lawful (run-next s made e rest lawful run)

pub lawful-after : (s : State) (made : ℕ) (events : List Event) → IsLawful s made → IsRun s events → IsLawful (after s events) (made + length events)
lawful-after s made [] lawful run = subst (IsLawful s) none lawful
  where
    none : made ≡ made + 0
    none = omega arith
lawful-after s made (e ∷ events) lawful run = subst (IsLawful (after (state_after s e) events)) one (lawful-after (state_after s e) (suc made) events (run-lawful s made e events lawful run) run.1)
  where
    one : suc made + length events ≡ made + suc (length events)
    one = omega arith

module _ (s : State) (made : ℕ) (events : List Event) (lawful : IsLawful s made) (run : IsRun s events) where
  from_prefix : (prefix rest : List Event) → prefix ++ rest ≡ events → IsRun s (prefix ++ rest)
  from_prefix prefix rest is = subst (IsRun s) (sym is) run

  -- the state after a prefix of the run is lawful
  pub lawful-there : (prefix rest : List Event) → prefix ++ rest ≡ events → IsLawful (after s prefix) (made + length prefix)
  lawful-there prefix rest is = lawful-after s made prefix lawful (run-prefix s prefix rest (from_prefix prefix rest is))

  -- and the event after it is the next one of its task
  pub next-there : (prefix rest : List Event) (e : Event) → prefix ++ e ∷ rest ≡ events → IsNext (after s prefix) e.task e
  next-there prefix rest e is = run-next (after s prefix) _ e rest (lawful-there prefix (e ∷ rest) is) (run-rest s prefix (e ∷ rest) (from_prefix prefix (e ∷ rest) is))

-- ---- states of a script

-- a task with a next event is there
pub next-task : (s : State) (t : TaskId) (e : Event) → next_event s t ≡ Some e → t.0 < length s.threads
next-task s t e is = there (call_of (thread_part s t)) refl is
  where
    there : (call : Option Call) → call_of (thread_part s t) ≡ call → event_of (shared s) t (thread_part s t) call ≡ Some e → t.0 < length s.threads
    there None at next = cc
    there (Some call) at next = (at_call s t call at).1

-- a state along a run is one of the script
pub IsOf-along : (script : Script) (s : State) (events : List Event) → IsOf script s → IsRun s events → IsOf script (after s events)
IsOf-along script s [] is run = is
IsOf-along script s (e ∷ events) is run = IsOf-along script (state_after s e) events (IsOf-after script s e (next-task s e.task e run.0) is) run.1
