use Rattle.std.proofs.Common.{◌≡◌, Bool, false, take}
use Rattle.std.specs.List.{list_any}
use Rattle.rt_model.specs.declared.obj.Obj.{Obj}
use Rattle.rt_events.specs.Touched.{path_tasks, Tells}
use Rattle.rt_events.proofs.footprint.any_on_path.Given as goal

abbrev pub invariant-loop-i : goal.invariant-loop-i
invariant-loop-i g l = (passes : Obj → Bool) → Tells (goal.F-post g l.test) passes → list_any passes (path_tasks (take l.i l.path)) ≡ false
