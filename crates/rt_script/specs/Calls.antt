-- The calls that call lines make: the form of a call, and what it makes in a script.
use Rattle.std.specs.Prelude.{ℕ, List, [], ◌∷◌, Option, Some, None, Ok, option_map, option_and_then}
use Rattle.rt_base.specs.declared.call.Call.{Call}
use Rattle.rt_base.specs.declared.call.Call.TheVariants as calls
use Rattle.rt_base.specs.declared.id.LockId.{LockId}
use Rattle.rt_base.specs.declared.kind.Kind.{Kind}
use Rattle.rt_base.specs.declared.kind.Kind.TheVariants as kinds
use Rattle.rt_base.specs.Script.{Script, lock_line}
use Rattle.rt_script.specs.declared.call_form.CallForm.{CallForm}
use Rattle.rt_script.specs.declared.call_form.CallForm.TheVariants as forms
use Rattle.rt_script.specs.declared.fault.Why.TheVariants.{Unknown, BadNumber, WrongKind}
use Rattle.rt_script.specs.declared.verb.Verb.{Verb}
use Rattle.rt_script.specs.declared.verb.Verb.TheVariants as verbs
use Rattle.rt_script.specs.declared.verb.LockVerb.{LockVerb}
use Rattle.rt_script.specs.declared.verb.LockVerb.TheVariants as on
use Rattle.rt_script.specs.Judging.{Judged, ◌>>=◌, need}
use Rattle.rt_base.specs.declared.limits.TheConstants.{MAX_PRIO}
use Rattle.rt_script.specs.Names.{task_named, lock_named}
use Rattle.rt_script.specs.Spelling.{cpu_spelled, state_spelled, verb_spelled}
use Rattle.rt_script.specs.Words.{number_upto}

-- ---- the form of a call: how many operands it has, and a state's word

-- the call of that name with these operands
abbrev pub form_with : Verb → List (List ℕ) → Option (CallForm (List ℕ))
form_with (verbs.OnLock verb) (lock ∷ []) = Some (forms.OnLock verb lock)
form_with verbs.State (word ∷ []) = option_map forms.State (state_spelled word)
form_with verbs.Schedule [] = Some forms.Schedule
form_with verbs.Wake (task ∷ []) = Some (forms.Wake task)
form_with verbs.Signal (task ∷ []) = Some (forms.Signal task)
form_with verbs.SetPrio (task ∷ prio ∷ []) = Some (forms.SetPrio task prio)
form_with verbs.Move (cpu ∷ []) = Some (forms.Move cpu)
form_with _ operands = None

-- the call that the words after a task's name have the form of
abbrev pub call_form : List (List ℕ) → Option (CallForm (List ℕ))
call_form [] = None
call_form (word ∷ operands) = option_and_then (λ verb. form_with verb operands) (verb_spelled word)

-- ---- what a call of some form makes, its words from left to right

-- a call of a reader/writer lock
abbrev pub reading_call : LockVerb → LockId → Option Call
reading_call on.Read l = Some (calls.Read l)
reading_call on.TryRead l = Some (calls.TryRead l)
reading_call on.Unread l = Some (calls.Unread l)
reading_call on.Write l = Some (calls.Write l)
reading_call on.TryWrite l = Some (calls.TryWrite l)
reading_call on.Unwrite l = Some (calls.Unwrite l)
reading_call on.Downgrade l = Some (calls.Downgrade l)
reading_call _ l = None

-- that call of a lock of that kind
abbrev pub call_on : Kind → LockVerb → LockId → Option Call
call_on kinds.Mutex on.Lock l = Some (calls.Lock l)
call_on kinds.Mutex on.LockInt l = Some (calls.LockInt l)
call_on kinds.Mutex on.TryLock l = Some (calls.TryLock l)
call_on kinds.Mutex on.Unlock l = Some (calls.Unlock l)
call_on kinds.Spin on.Spin l = Some (calls.Spin l)
call_on kinds.Spin on.TrySpin l = Some (calls.TrySpin l)
call_on kinds.Spin on.Unspin l = Some (calls.Unspin l)
call_on kinds.RwLock verb l = reading_call verb l
call_on kinds.RwSem verb l = reading_call verb l
call_on kinds.Local on.Local l = Some (calls.Local l)
call_on kinds.Local on.Unlocal l = Some (calls.Unlocal l)
call_on _ verb l = None

-- that call of a lock of that name
abbrev pub lock_call : Script → LockVerb → List ℕ → Judged Call
lock_call script verb lock = do
  l ← need Unknown (lock_named script lock)
  need WrongKind (call_on (lock_line script l).kind verb l)

-- the call that a form makes
abbrev pub call_in : Script → CallForm (List ℕ) → Judged Call
call_in script (forms.OnLock verb lock) = lock_call script verb lock
call_in script (forms.State state) = Ok (calls.State state)
call_in script forms.Schedule = Ok calls.Schedule
call_in script (forms.Wake task) = do
  t ← need Unknown (task_named script task)
  Ok (calls.Wake t)
call_in script (forms.Signal task) = do
  t ← need Unknown (task_named script task)
  Ok (calls.Signal t)
call_in script (forms.SetPrio task prio) = do
  t ← need Unknown (task_named script task)
  n ← need BadNumber (number_upto MAX_PRIO prio)
  Ok (calls.SetPrio t n)
call_in script (forms.Move cpu) = do
  cpu ← need BadNumber (cpu_spelled script cpu)
  Ok (calls.Move cpu)
