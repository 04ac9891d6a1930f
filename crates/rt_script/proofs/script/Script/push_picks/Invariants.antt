use Rattle.std.proofs.Common.{◌≡◌, ◌++◌, take, flat_map}
use Rattle.rt_script.specs.Canonical.{pick_text}
use Rattle.rt_script.proofs.script.Script.push_picks.Given as goal

abbrev pub invariant-loop-t : goal.invariant-loop-t
invariant-loop-t l = l.out.items ≡ l.initial.out.items ++ flat_map (pick_text l.self) (take l.t-index l.self.picks)
