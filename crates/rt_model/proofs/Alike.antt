-- What two states share is alike where an event touches it.
use Rattle.std.proofs.Common.{◌≡◌, true, refl, ap, ◌∙◌, sym, subst, Option, Some, None}
use Rattle.rt_base.specs.declared.id.LockId.{LockId}
use Rattle.rt_base.specs.declared.id.TaskId.{TaskId}
use Rattle.rt_model.specs.declared.event.Event.{Event}
use Rattle.rt_model.specs.declared.obj.Obj.TheVariants as objects
use Rattle.rt_model.specs.Parts.{TaskPart}
use Rattle.rt_model.specs.State.{Shared, lock_in, lock_at, readers_in, readers_at, task_in, task_at}
use Rattle.rt_model.specs.Effect.{around}
use Rattle.rt_model.specs.Rules.{touched}
use Rattle.rt_model.specs.Footprint.{touches}
use Rattle.rt_model.proofs.Touching.{touches-lock, touches-readers, touches-own, touches-owner, touches-other}

pub record Alike (e : Event) (a b : Shared) : Type 0 where
  pub lock : (l : LockId) → touches e (objects.OwnerPart l) ≡ true → lock_in b l ≡ lock_in a l
  pub readers : (l : LockId) → touches e (objects.ReaderPart l) ≡ true → readers_in b l ≡ readers_in a l
  pub task : (u : TaskId) → touches e (objects.Task u) ≡ true → task_in b u ≡ task_in a u

-- ---- what is around the event

pub same-lock_at : (a b : Shared) (named : Option LockId) → ((l : LockId) → named ≡ Some l → lock_in b l ≡ lock_in a l) → lock_at b named ≡ lock_at a named
same-lock_at a b None same = refl
same-lock_at a b (Some l) same = same l refl

same-readers_at : (a b : Shared) (named : Option LockId) → ((l : LockId) → named ≡ Some l → readers_in b l ≡ readers_in a l) → readers_at b named ≡ readers_at a named
same-readers_at a b None same = refl
same-readers_at a b (Some l) same = same l refl

pub same-task_at : (a b : Shared) (named : Option TaskId) → ((u : TaskId) → named ≡ Some u → task_in b u ≡ task_in a u) → task_at b named ≡ task_at a named
same-task_at a b None same = refl
same-task_at a b (Some u) same = same u refl

pub same-around : (e : Event) (a b : Shared) → Alike e a b → around b (touched e.kind e) ≡ around a (touched e.kind e)
same-around e a b alike =
    let named = touched e.kind e in
    let lock = same-lock_at a b named.lock (λ l is. alike.lock l (touches-lock e l is)) in
    let readers = same-readers_at a b named.readers (λ l is. alike.readers l (touches-readers e l is)) in
    let own = same-task_at a b named.own (λ u is. alike.task u (touches-own e u is)) in
    let owner = same-task_at a b named.owner (λ u is. alike.task u (touches-owner e u is)) in
    let other = same-task_at a b named.other (λ u is. alike.task u (touches-other e u is)) in
    λ i. record { lock = lock i; readers = readers i; own = own i; owner = owner i; other = other i }

-- ---- the choice

-- a choice that gives an event gives it also where what the event touches is alike
abbrev pub GivesAlike : (Shared → Option Event) → Shared → Shared → Type 0
GivesAlike f a b = (e : Event) → f a ≡ Some e → Alike e a b → f b ≡ Some e

pub gives_alike : (f : Shared → Event) (a b : Shared) → (Alike (f a) a b → f b ≡ f a) → GivesAlike (λ sh. Some (f sh)) a b
gives_alike f a b same e is alike =
    let event : f a ≡ e = cc in
    ap Some (same (subst (λ (x : Event). Alike x a b) (sym event) alike) ∙ event)

-- an event that acts on a task, and is told by it alone
pub same-other : (a b : Shared) (u : TaskId) (f : TaskPart → Event)
    → (touched (f (task_in a u)).kind (f (task_in a u))).other ≡ Some u → Alike (f (task_in a u)) a b → f (task_in b u) ≡ f (task_in a u)
same-other a b u f named alike = ap f (alike.task u (touches-other (f (task_in a u)) u named))
