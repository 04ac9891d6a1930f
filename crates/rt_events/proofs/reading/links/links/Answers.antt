use Rattle.std.proofs.Common.{◌∷◌, ℕ, length, [], List, ap, ◌∙◌, arith, sym, length-append}
use Rattle.rt_events.specs.reading.Tail.{plain_front}
use Rattle.rt_events.proofs.lines.Linked.{front_step, rest_step, two_more}
use Rattle.rt_events.proofs.reading.links.links.Goals as goal

pub loop-preserved : goal.loop-preserved
loop-preserved c =
    let first = c.in-Some.ensures in
    let second = c.in_ok-l.ensures in
    let front = front_step c.loop.words c.in-Some.t.now c.next_plain.new.self first.0 first.1 ∙ ap (λ more. c.in-Some.t.now ∷ more) (front_step c.next_plain.new.self c.in_ok-l.l.now c.next_plain-in-loop.new.self second.0 second.1) in
    let rest = rest_step c.loop.words c.in-Some.t.now c.next_plain.new.self first.0 first.1 ∙ rest_step c.next_plain.new.self c.in_ok-l.l.now c.next_plain-in-loop.new.self second.0 second.1 in
    record {
      count = omega (arith, ap (λ (l : List (ℕ × ℕ)). length l) c.push.ensures, length-append c.loop.path ((c.in_ok-t.t.0, c.in_ok-l-2.l.0) ∷ []), c.loop.invariant.count);
      left = rw c.push.ensures (two_more c.args.script.now c.loop.counter c.loop.path (plain_front c.loop.words) c.in-Some.t.now c.in_ok-l.l.now (plain_front c.next_plain-in-loop.new.self) c.in_ok-t.t c.in_ok-l-2.l _ c.loop-test.true front (sym c.task_named.ensures.task ∙ c.in_ok-t.was) (sym c.lock_in.ensures.lock ∙ c.in_ok-l-2.was) c.loop.invariant.left);
      rest = sym rest ∙ c.loop.invariant.rest;
    }
