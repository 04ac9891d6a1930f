-- Releases: how they come about, and that their choice reads only what they touch.
use Rattle.std.proofs.Common.{◌≡◌, Bool, true, false, cond, refl, sym, ap, ◌∙◌, Option}
use Rattle.rt_base.specs.declared.call.Call.{Call}
use Rattle.rt_base.specs.declared.id.LockId.{LockId}
use Rattle.rt_base.specs.declared.id.TaskId.{TaskId}
use Rattle.rt_model.specs.declared.event.Event.{Event}
use Rattle.rt_model.specs.Parts.{OwnerPart, call_of}
use Rattle.rt_model.specs.State.{State, Shared, lock_in, task_in, owner_part, task_part, thread_part}
use Rattle.rt_model.specs.events.Release.{free_event, give_event, release_event}
use Rattle.rt_model.proofs.Calling.{Returns}
use Rattle.rt_model.proofs.Touching.{touches-lock, touches-own}
use Rattle.rt_model.proofs.Alike.{Alike}

-- ---- how they come about

-- the task releases the lock at once
pub record IsFree (s : State) (t : TaskId) (l : LockId) (e : Event) : Type 0 where
  pub at : Returns s t l
  pub bit : (owner_part s l).bit ≡ false
  pub event : e ≡ free_event (call_of (thread_part s t)) t l

-- it gives the lock up
pub record IsGive (s : State) (t : TaskId) (l : LockId) (e : Event) : Type 0 where
  pub at : Returns s t l
  pub bit : (owner_part s l).bit ≡ true
  pub event : e ≡ give_event (call_of (thread_part s t)) t l (owner_part s l) (task_part s t)

pub data IsRelease (s : State) (t : TaskId) (l : LockId) (e : Event) : Type 0 where
  is_free : IsFree s t l e → IsRelease s t l e
  is_give : IsGive s t l e → IsRelease s t l e

pub released : (s : State) (t : TaskId) (l : LockId) (e : Event) → Returns s t l → release_event (call_of (thread_part s t)) t l (owner_part s l) (task_part s t) ≡ e → IsRelease s t l e
released s t l e at is = by_bit (owner_part s l).bit refl is
  where
    by_bit : (bit : Bool) → (owner_part s l).bit ≡ bit → cond bit (give_event (call_of (thread_part s t)) t l (owner_part s l) (task_part s t)) (free_event (call_of (thread_part s t)) t l) ≡ e → IsRelease s t l e
    by_bit true set is = is_give (record { at = at; bit = set; event = sym is })
    by_bit false clear is = is_free (record { at = at; bit = clear; event = sym is })

-- ---- what the choice reads

pub same-release : (a b : Shared) (call : Option Call) (t : TaskId) (l : LockId) → Alike (release_event call t l (lock_in a l) (task_in a t)) a b → release_event call t l (lock_in b l) (task_in b t) ≡ release_event call t l (lock_in a l) (task_in a t)
same-release a b call t l = by_bit (lock_in a l).bit refl
  where
    by_bit : (bit : Bool) → (lock_in a l).bit ≡ bit → Alike (cond bit (give_event call t l (lock_in a l) (task_in a t)) (free_event call t l)) a b
        → release_event call t l (lock_in b l) (task_in b t) ≡ cond bit (give_event call t l (lock_in a l) (task_in a t)) (free_event call t l)
    by_bit true set alike =
        let lock = alike.lock l (touches-lock (give_event call t l (lock_in a l) (task_in a t)) l refl) in
        let task = alike.task t (touches-own (give_event call t l (lock_in a l) (task_in a t)) t refl) in
        (λ i. release_event call t l (lock i) (task i)) ∙ ap (λ (c : Bool). cond c (give_event call t l (lock_in a l) (task_in a t)) (free_event call t l)) set
    by_bit false clear alike =
        let lock = alike.lock l (touches-lock (free_event call t l) l refl) in
        ap (λ (x : OwnerPart). release_event call t l x (task_in b t)) lock ∙ ap (λ (c : Bool). cond c (give_event call t l (lock_in a l) (task_in b t)) (free_event call t l)) clear
