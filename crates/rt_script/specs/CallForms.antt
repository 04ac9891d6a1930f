-- The form of a call as code holds it.
use Rattle.std.specs.Prelude.{◌≢◌, ℕ, List}
use denote.Ref.{Bor}
use Rattle.rt_base.specs.declared.state.TaskState.TheVariants.{LockWait}
use Rattle.rt_script.specs.declared.call_form.CallForm.{CallForm}
use Rattle.rt_script.specs.declared.call_form.CallForm.TheVariants.{OnLock, State, Schedule, Wake, Signal, SetPrio, Move}

-- the same form, with each word seen
abbrev pub form_map : {A B : Type 0} → (A → B) → CallForm A → CallForm B
form_map see (OnLock verb lock) = OnLock verb (see lock)
form_map see (State state) = State state
form_map see Schedule = Schedule
form_map see (Wake task) = Wake (see task)
form_map see (Signal task) = Signal (see task)
form_map see (SetPrio task prio) = SetPrio (see task) (see prio)
form_map see (Move cpu) = Move (see cpu)

-- the same form, with the bytes of each word
abbrev pub seen_form : CallForm (Bor (List ℕ)) → CallForm (List ℕ)
seen_form form = form_map (λ (word : Bor (List ℕ)). word.now) form

-- a state that it sets is one that a task can be put into
abbrev pub IsSettable : {W : Type 0} → CallForm W → Type 0
IsSettable (State state) = state ≢ LockWait
IsSettable _ = Unit {0}
