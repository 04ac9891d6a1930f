-- Which events change the owner of a lock.
use Rattle.std.proofs.Common.{◌≡◌, Bool, true, false, refl, ◌∙◌}
use Rattle.rt_base.specs.declared.id.LockId.{LockId}
use Rattle.rt_model.specs.declared.event.Event.{Event}
use Rattle.rt_model.specs.declared.event_kind.EventKind.{EventKind}
use Rattle.rt_model.specs.declared.event_kind.EventKind.TheVariants as kinds
use Rattle.rt_model.specs.Parts.{OwnerPart, ThreadPart}
use Rattle.rt_model.specs.State.{State, shared, owner_part, thread_part}
use Rattle.rt_model.specs.Effect.{Around, around}
use Rattle.rt_model.specs.Rules.{touched, effect}
use Rattle.rt_model.specs.StateAfter.{state_after}
use Rattle.rt_model.proofs.Links.{requeued-owner}
use Rattle.rt_model.proofs.PartsAfter.{lock-kept}

-- a lock is acquired or released
abbrev pub changes_owner : EventKind → Bool
changes_owner kinds.Fast = true
changes_owner kinds.Take = true
changes_owner kinds.Free = true
changes_owner kinds.Give = true
changes_owner _ = false

-- told by the kind
pub owner-left : (kind : EventKind) (e : Event) (th : ThreadPart) (found : Around) → changes_owner kind ≡ false → (lock : OwnerPart) → ((effect kind e th found).lock lock).owner ≡ lock.owner
owner-left kinds.Fast e th found is lock = cc
owner-left kinds.Take e th found is lock = cc
owner-left kinds.Free e th found is lock = cc
owner-left kinds.Give e th found is lock = cc
owner-left kinds.Walk e th found is lock = requeued-owner e.other found.other lock
owner-left _ e th found is lock = refl

-- and of an event that comes about as x
pub owners-kept : (s : State) (e x : Event) (m : LockId) → e ≡ x → changes_owner x.kind ≡ false → (owner_part (state_after s e) m).owner ≡ (owner_part s m).owner
owners-kept s e x m is kept =
    lock-kept (λ lock. lock.owner ≡ (owner_part s m).owner) s e x m is refl
    (λ lock was. owner-left x.kind x (thread_part s x.task) (around (shared s) (touched x.kind x)) kept lock ∙ was)
