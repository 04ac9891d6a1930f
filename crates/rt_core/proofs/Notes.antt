-- Where a task stands names only what is there.
use Rattle.std.proofs.Common.{◌≡◌, ℕ, length, refl, subst, true, cond, Option, Some, None}
use Rattle.std.proofs.lemmas.Bool.{cond_both}
use Rattle.rt_base.specs.Script.{Script}
use Rattle.rt_base.specs.declared.call.Call.{Call}
use Rattle.rt_base.specs.declared.call.Call.TheVariants as calls
use Rattle.rt_base.specs.declared.id.Cpu.{Cpu}
use Rattle.rt_base.specs.declared.id.LockId.{LockId}
use Rattle.rt_base.specs.declared.id.TaskId.{TaskId}
use Rattle.rt_model.specs.declared.phase.Phase.{Phase}
use Rattle.rt_model.specs.declared.phase.Phase.TheVariants as phases
use Rattle.rt_model.specs.Parts.{call_of}
use Rattle.rt_model.specs.State.{State, task_part, thread_part}
use Rattle.rt_model.specs.Run.{is_enabled}
use Rattle.rt_model.specs.laws.Shape.{IsOf}
use Rattle.rt_model.specs.Choice.{called_lock}
use Rattle.rt_model.specs.CallKinds.{IsServed, IsPhaseOf, waits_to_write}
use Rattle.rt_model.specs.laws.Lawful.{IsLawful}
use Rattle.rt_model.proofs.Calling.{served_call}
use Rattle.rt_model.proofs.Waiters.{WaitsFor-blocked}
use Rattle.rt_model.proofs.laws.Shape.{IsOf-threads}
use Rattle.rt_core.proofs.Choosing.{cursor-within}
use Rattle.rt_core.specs.declared.note.Note.{Note}
use Rattle.rt_core.specs.declared.note.Note.TheVariants as notes
use Rattle.rt_core.specs.Report.{blocked_note, readers_note, phase_note, call_note, note_of, IsNoteWithin}

-- a task that is blocked is so on a lock that is there
blocked_within : (s : State) (made : ℕ) (t : TaskId) (at : Option (LockId × ℕ)) → IsLawful s made → (task_part s t).blocked ≡ at → IsNoteWithin (length s.threads) (length s.locks) (blocked_note at)
blocked_within s made t None lawful is = tt
blocked_within s made t (Some at) lawful is = (WaitsFor-blocked s t at lawful.calls lawful.phases lawful.queued is).lock

ready_or : (s : State) (t : TaskId) (waiting : Note) → IsNoteWithin (length s.threads) (length s.locks) waiting → IsNoteWithin (length s.threads) (length s.locks) (cond (is_enabled s t.0) notes.Ready waiting)
ready_or s t waiting within = cond_both (is_enabled s t.0) notes.Ready waiting (IsNoteWithin (length s.threads) (length s.locks)) (λ _. tt) (λ _. within)

-- a writer that sleeps for readers does so at a lock that is there
readers_within : (tasks locks : ℕ) (cpu : Cpu) (call : Call) → IsServed tasks locks call → waits_to_write call ≡ true → IsNoteWithin tasks locks (readers_note (called_lock call))
readers_within tasks locks cpu (calls.Write l) served writes = served
readers_within tasks locks cpu _ served writes = cc

phase_within : (s : State) (made : ℕ) (t : TaskId) (call : Call) (phase : Phase) → (thread_part s t).phase ≡ phase → IsLawful s made → call_of (thread_part s t) ≡ Some call → IsPhaseOf phase (Some call)
    → IsNoteWithin (length s.threads) (length s.locks) (phase_note phase s t call)
phase_within s made t call phases.Wait at lawful calling fits = ready_or s t (blocked_note (task_part s t).blocked) (blocked_within s made t (task_part s t).blocked lawful refl)
phase_within s made t call phases.WWait at lawful calling fits =
    ready_or s t (readers_note (called_lock call)) (readers_within (length s.threads) (length s.locks) (thread_part s t).cpu call (served_call s t call lawful.calls calling) fits)
phase_within s made t call (phases.Walk cursor route) at lawful calling fits = cursor-within s made t lawful cursor route at
phase_within s made t call (phases.Confirm path) at lawful calling fits = tt
phase_within s made t call _ at lawful calling fits = ready_or s t notes.Wake tt

call_within : (s : State) (made : ℕ) (t : TaskId) (call : Option Call) → IsLawful s made → call_of (thread_part s t) ≡ call → IsNoteWithin (length s.threads) (length s.locks) (call_note s t call)
call_within s made t None lawful at = tt
call_within s made t (Some call) lawful at =
    phase_within s made t call (thread_part s t).phase refl lawful at (subst (λ (c : Option Call). IsPhaseOf (thread_part s t).phase c) at (lawful.phases t))

pub note_within : (s : State) (made : ℕ) (t : TaskId) → IsLawful s made → IsNoteWithin (length s.threads) (length s.locks) (note_of s t)
note_within s made t lawful = call_within s made t (call_of (thread_part s t)) lawful refl

-- what is among the tasks and locks of a script's state is among those of the script
pub IsNoteWithin-script : (script : Script) (s : State) (note : Note) → IsOf script s → IsNoteWithin (length s.threads) (length s.locks) note → IsNoteWithin (length script.tasks) (length script.locks) note
IsNoteWithin-script script s note is within =
    subst (λ (n : ℕ). IsNoteWithin (length script.tasks) n note) is.locks (subst (λ (n : ℕ). IsNoteWithin n (length s.locks) note) (IsOf-threads script s is) within)
