use Rattle.std.proofs.Common.{◌≡◌, ◌-◌, length}
use Rattle.rt_events.specs.reading.Operands.{links_in}
use Rattle.rt_events.specs.reading.Tail.{plain_front, plain_rest}
use Rattle.rt_events.proofs.lines.Linked.{behind}
use Rattle.rt_events.proofs.reading.links.links.Given as goal

abbrev pub invariant-loop : goal.invariant-loop
invariant-loop l = record {
  count : length l.path ≡ l.counter;
  left : behind l.path (links_in l.script (64 - l.counter) (plain_front l.words)) ≡ links_in l.script 64 (plain_front l.initial.words);
  rest : plain_rest l.words ≡ plain_rest l.initial.words;
}
