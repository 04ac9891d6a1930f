use Rattle.std.proofs.Common.{refl, sym, arith}
use Rattle.rt_script.proofs.Growth.{IsScript-of_cpus}
use Rattle.rt_script.proofs.Naming.{named-nothing}
use Rattle.rt_script.proofs.script.Script.new.Goals as goal

pub invariant_of-result : goal.invariant_of-result
invariant_of-result c = record {
  script = rw (c.new.ensures.items, c.new-2.ensures.items, c.new-3.ensures.items) (IsScript-of_cpus 1 (omega arith) (omega arith));
  calls = rw c.new.ensures.items refl;
  names = λ name. rw (c.new.ensures.items, c.new-2.ensures.items, c.new-3.ensures.items, c.new-4.ensures.empty) (sym (named-nothing name));
}
