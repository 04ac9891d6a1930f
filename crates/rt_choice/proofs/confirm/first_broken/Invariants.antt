use Rattle.std.proofs.Common.{◌≡◌, drop, not}
use Rattle.std.specs.Prelude.{find}
use Rattle.rt_model.specs.Path.{links_of, stands, first_broken}
use Rattle.rt_choice.proofs.confirm.first_broken.Given as goal

-- those looked at stand
abbrev pub invariant-loop-i : goal.invariant-loop-i
invariant-loop-i l = first_broken l.shared l.path ≡ find (λ link. not (stands l.shared link)) (drop l.i (links_of l.path))
