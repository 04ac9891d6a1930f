-- The objects that an event reads and writes, read off the event alone.
use Rattle.std.specs.Prelude.{ℕ, Bool, false, List, [], ◌∷◌, ◌++◌, map, Option, Some, None, nat_eq}
use Rattle.std.specs.List.{list_any}
use Rattle.rt_base.specs.declared.id.LockId.{LockId}
use Rattle.rt_base.specs.declared.id.TaskId.{TaskId}
use Rattle.rt_model.specs.declared.event.Event.{Event}
use Rattle.rt_model.specs.declared.obj.Obj.{Obj}
use Rattle.rt_model.specs.Effect.{Touched}
use Rattle.rt_model.specs.Rules.{touched}
use Rattle.rt_model.specs.declared.obj.Obj.TheVariants.{OwnerPart, ReaderPart, Task, Thread}

-- the two are one object
abbrev pub same_object : Obj → Obj → Bool
same_object (OwnerPart l) (OwnerPart m) = nat_eq l.0 m.0
same_object (ReaderPart l) (ReaderPart m) = nat_eq l.0 m.0
same_object (Task t) (Task u) = nat_eq t.0 u.0
same_object (Thread t) (Thread u) = nat_eq t.0 u.0
same_object _ _ = false

-- the owner part, the reader part and the task that a slot names
abbrev pub owner_parts : Option LockId → List Obj
owner_parts None = []
owner_parts (Some l) = OwnerPart l ∷ []

abbrev pub reader_parts : Option LockId → List Obj
reader_parts None = []
reader_parts (Some l) = ReaderPart l ∷ []

abbrev pub tasks_of : Option TaskId → List Obj
tasks_of None = []
tasks_of (Some t) = Task t ∷ []

-- the owner part of a path's first lock, and the tasks of the path
abbrev pub along : List (ℕ × ℕ) → List Obj
along [] = []
along (link ∷ links) = OwnerPart (record { 0 = link.1 }) ∷ map (λ (pair : ℕ × ℕ). Task (record { 0 = pair.0 })) (link ∷ links)

-- what the slots of an event name
abbrev pub objects_of : Touched → List Obj
objects_of named = owner_parts named.lock ++ (reader_parts named.readers ++ (tasks_of named.own ++ (tasks_of named.owner ++ (tasks_of named.other ++ (tasks_of named.woken ++ along named.path)))))

-- all that an event touches
abbrev pub footprint : Event → List Obj
footprint e = Thread e.task ∷ objects_of (touched e.kind e)

-- the object is in the event's footprint
abbrev pub touches : Event → Obj → Bool
touches e o = list_any (same_object o) (footprint e)
