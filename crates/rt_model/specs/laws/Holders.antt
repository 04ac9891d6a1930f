-- Who owns each lock, writes it and reads it, read off a list of events alone.
use Rattle.std.specs.Prelude.{◌≡◌, ℕ, ◌+◌, ◌-◌, ◌<◌, Bool, true, false, List, ◌∷◌, ◌++◌, Option, Some, None, IfSome, nat_eq, if◌then◌else◌}
use Rattle.std.specs.List.{fold}
use Rattle.rt_base.specs.declared.id.LockId.{LockId}
use Rattle.rt_base.specs.declared.id.TaskId.{TaskId}
use Rattle.rt_base.specs.declared.kind.Kind.{Kind}
use Rattle.rt_model.specs.declared.event.Event.{Event}
use Rattle.rt_model.specs.declared.event_kind.EventKind.{EventKind}
use Rattle.rt_model.specs.declared.event_kind.EventKind.TheVariants as kinds
use Rattle.rt_model.specs.Parts.{has_readers}
use Rattle.rt_model.specs.Choice.{is_on}
use Rattle.rt_model.specs.State.{State, owner_part, reader_part}
use Rattle.rt_model.specs.Run.{after}

-- the owner of a lock, which of a reader/writer lock is the owner of its inner lock; its writer; and how many readers are in
pub record Held : Type 0 where
  pub owner : Option TaskId
  pub writer : Option TaskId
  pub readers : ℕ

abbrev pub nobody : Held
nobody = record { owner = None; writer = None; readers = 0 }

-- who holds a lock of this kind alone: the writer of a reader/writer lock, and the owner of any other
abbrev pub holder_of : Kind → Held → Option TaskId
holder_of kind held = if has_readers kind then held.writer else held.owner

-- an event of this kind makes its task the owner
abbrev pub acquires : EventKind → Bool
acquires kinds.Fast = true
acquires kinds.Take = true
acquires _ = false

-- an event of this kind leaves no owner
abbrev pub releases : EventKind → Bool
releases kinds.Free = true
releases kinds.Give = true
releases _ = false

-- what an event of this kind makes of it, at its lock: the number 1 tells a downgrade
abbrev pub held_after : EventKind → Event → Held → Held
held_after kinds.Fast e held = record held { owner = Some e.task }
held_after kinds.Take e held = record held { owner = Some e.task }
held_after kinds.Free e held = record held { owner = None }
held_after kinds.Give e held = record held { owner = None }
held_after kinds.RIn e held = record held { readers = held.readers + 1 }
held_after kinds.ROut e held = record held { readers = held.readers - 1 }
held_after kinds.WTake e held = record held { writer = Some e.task }
held_after kinds.WOpen e held = record held { writer = None; readers = if nat_eq e.value 1 then held.readers + 1 else held.readers }
held_after kind e held = held

-- who has a lock after these events, from nobody on
abbrev pub holders_of : List Event → LockId → Held
holders_of events l = fold (λ held e. if is_on e.lock l then held_after e.kind e held else held) nobody events

-- who has a lock in a state: where a writer is in, it is the owner
abbrev pub held_in : State → LockId → Held
held_in s l = record {
  owner = (owner_part s l).owner;
  writer = if (reader_part s l).writer then (owner_part s l).owner else None;
  readers = (reader_part s l).count;
}

-- the lock has a writer that owns it, with no reader beside it, or none
abbrev pub IsExclusive : Held → Type 0
IsExclusive held = IfSome held.writer (λ t. (held.owner ≡ Some t) × (held.readers ≡ 0))

-- an event stands after these and is on this lock
pub record Meets (events prefix : List Event) (e : Event) (l : LockId) : Type 0 where
  pub rest : List Event
  pub along : prefix ++ e ∷ rest ≡ events
  pub on : e.lock ≡ Some l

pub record HoldersLaw (s : State) (events : List Event) : Type 0 where
  -- after each prefix of the events who has a lock by the events has it in the state, and no writer is beside a reader
  pub told : (prefix rest : List Event) (l : LockId) → prefix ++ rest ≡ events
      → holders_of prefix l ≡ held_in (after s prefix) l
  pub exclusive : (prefix rest : List Event) (l : LockId) → prefix ++ rest ≡ events → IsExclusive (holders_of prefix l)
  -- no event makes its task the owner of a lock that has one, and none but the owner leaves a lock without owner
  pub acquired : (prefix : List Event) (e : Event) (l : LockId) → Meets events prefix e l → acquires e.kind ≡ true
      → (holders_of prefix l).owner ≡ None
  pub released : (prefix : List Event) (e : Event) (l : LockId) → Meets events prefix e l → releases e.kind ≡ true
      → (holders_of prefix l).owner ≡ Some e.task
  -- no reader gets in where a writer is, and none gets out where none is in
  pub read_in : (prefix : List Event) (e : Event) (l : LockId) → Meets events prefix e l → e.kind ≡ kinds.RIn
      → (holders_of prefix l).writer ≡ None
  pub read_out : (prefix : List Event) (e : Event) (l : LockId) → Meets events prefix e l → e.kind ≡ kinds.ROut
      → 0 < (holders_of prefix l).readers
  -- who gets in to write owns the inner lock, with no reader and no writer in, and who opens it to readers owns it
  pub written : (prefix : List Event) (e : Event) (l : LockId) → Meets events prefix e l → e.kind ≡ kinds.WTake
      → holders_of prefix l ≡ record { owner = Some e.task; writer = None; readers = 0 }
  pub opened : (prefix : List Event) (e : Event) (l : LockId) → Meets events prefix e l → e.kind ≡ kinds.WOpen
      → (holders_of prefix l).owner ≡ Some e.task
