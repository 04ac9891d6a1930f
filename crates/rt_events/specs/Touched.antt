-- Tests of the objects of a footprint.
use Rattle.std.specs.Prelude.{◌≡◌, ℕ, Bool, List, ◌++◌, map}
use Rattle.std.specs.List.{list_any}
use Rattle.rt_model.specs.declared.event.Event.{Event}
use Rattle.rt_model.specs.declared.obj.Obj.{Obj}
use Rattle.rt_model.specs.declared.obj.Obj.TheVariants.{Task}
use Rattle.rt_model.specs.Footprint.{tasks_of}

-- what a test answers of an object is whether it passes
abbrev pub Tells : (Obj → Bool → Type 0) → (Obj → Bool) → Type 0
Tells answers passes = (o : Obj) (answer : Bool) → answers o answer → answer ≡ passes o

-- where that is so, the answer is whether some of these objects passes
abbrev pub TellsAny : (Obj → Bool → Type 0) → List Obj → Bool → Type 0
TellsAny answers objects answer = (passes : Obj → Bool) → Tells answers passes → answer ≡ list_any passes objects

-- the tasks that a walk's event names, one after another
abbrev pub walked_tasks : Event → List Obj
walked_tasks e = tasks_of e.owner ++ (tasks_of e.other ++ tasks_of e.woken)

-- the tasks of a path
abbrev pub path_tasks : List (ℕ × ℕ) → List Obj
path_tasks path = map (λ (link : ℕ × ℕ). Task (record { 0 = link.0 })) path
