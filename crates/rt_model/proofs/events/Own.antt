-- Own: how it comes about.
use Rattle.std.proofs.Common.{◌≡◌, ℕ, Bool, true, false, cond, refl, Option, Some, None}
use Rattle.std.specs.Prelude.{nat_lt}
use Rattle.rt_base.specs.declared.call.Call.{Call}
use Rattle.rt_base.specs.declared.call.Call.TheVariants as calls
use Rattle.rt_base.specs.declared.id.LockId.{LockId}
use Rattle.rt_base.specs.declared.id.TaskId.{TaskId}
use Rattle.rt_base.specs.declared.kind.Kind.{Kind}
use Rattle.rt_base.specs.declared.kind.Kind.TheVariants as locks
use Rattle.rt_base.specs.declared.reply.Reply.{Reply}
use Rattle.rt_base.specs.declared.reply.Reply.TheVariants as replies
use Rattle.rt_model.specs.declared.event.Event.{Event}
use Rattle.rt_model.specs.declared.phase.Phase.TheVariants as phases
use Rattle.rt_model.specs.Choice.{called_lock}
use Rattle.rt_model.specs.State.{State, thread_part}
use Rattle.rt_model.specs.events.Own.{unless_nested, if_held, if_not_held, private_answer, own_answer, own_event}
use Rattle.rt_model.proofs.Calling.{IsIn}

-- the thread answers at once
pub record IsOwn (s : State) (t : TaskId) (call : Call) (answer : Reply) (e : Event) : Type 0 where
  pub at : IsIn s t phases.Start call
  pub why : own_answer (thread_part s t) call ≡ Some answer
  pub event : e ≡ own_event t (called_lock call) answer

-- an acquire that isn't answered at once is of a lock that isn't held, and a release of one that is
pub not_held : (nested : ℕ) (held : Bool) → unless_nested nested (if_held held) ≡ None → held ≡ false
not_held nested held is = by_test (nat_lt 0 nested) held is
  where
    by_test : (b h : Bool) → cond b (Some replies.Nesting) (if_held h) ≡ None → h ≡ false
    by_test true h is = cc
    by_test false true is = cc
    by_test false false is = refl

pub unheld : (held : Bool) → if_held held ≡ None → held ≡ false
unheld true is = cc
unheld false is = refl

pub was_held : (held : Bool) → if_not_held held ≡ None → held ≡ true
was_held true is = refl
was_held false is = cc

-- a read and a write sleep in an ordinary state at an `rw_semaphore` alone
pub read-holds : (P : Option Reply → Type 0) (l : LockId) (kind : Option Kind) (nested : ℕ) (held : Bool) (migration : ℕ) → P (unless_nested nested (if_held held)) → P (if_held held) → P (private_answer (calls.Read l) kind nested held migration)
read-holds P l (Some locks.RwSem) nested held migration sleeps spins = sleeps
read-holds P l _ nested held migration sleeps spins = spins

pub write-holds : (P : Option Reply → Type 0) (l : LockId) (kind : Option Kind) (nested : ℕ) (held : Bool) (migration : ℕ) → P (unless_nested nested (if_held held)) → P (if_held held) → P (private_answer (calls.Write l) kind nested held migration)
write-holds P l (Some locks.RwSem) nested held migration sleeps spins = sleeps
write-holds P l _ nested held migration sleeps spins = spins

-- and are of a lock that isn't held, too
pub read_unheld : (l : LockId) (kind : Option Kind) (nested : ℕ) (held : Bool) (migration : ℕ) → private_answer (calls.Read l) kind nested held migration ≡ None → held ≡ false
read_unheld l kind nested held migration = read-holds (λ (own : Option Reply). own ≡ None → held ≡ false) l kind nested held migration (not_held nested held) (unheld held)

pub write_unheld : (l : LockId) (kind : Option Kind) (nested : ℕ) (held : Bool) (migration : ℕ) → private_answer (calls.Write l) kind nested held migration ≡ None → held ≡ false
write_unheld l kind nested held migration = write-holds (λ (own : Option Reply). own ≡ None → held ≡ false) l kind nested held migration (not_held nested held) (unheld held)
