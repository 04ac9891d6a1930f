use Rattle.std.proofs.Common.{◌≡◌, ◌++◌, take, flat_map}
use Rattle.rt_policy.specs.Counts.{kind_count}
use Rattle.rt_top.specs.Summary.{events_line}
use Rattle.rt_top.proofs.summary.push_kinds.Given as goal

abbrev pub invariant-loop-kind : goal.invariant-loop-kind
invariant-loop-kind l = l.out.items ≡ l.initial.out.items ++ flat_map (λ kind. events_line kind (kind_count l.counts kind)) (take l.kind-index l.kinds)
