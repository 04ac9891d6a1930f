use Rattle.std.proofs.Common.{◌+◌, ◌<◌, ◌≤◌, ℕ, suc, drop, get_or, length, add-one, arith, sym, subst}
use Rattle.std.proofs.lemmas.List.Elements.{All-get_or}
use Rattle.rt_base.specs.declared.id.TaskId.{TaskId}
use Rattle.rt_model.specs.NextEvent.{next_event}
use Rattle.rt_model.specs.Order.{picked}
use Rattle.rt_model.proofs.laws.Shape.{IsOf-threads}
use Rattle.rt_policy.proofs.Loops.{picked-drop}
use Rattle.rt_policy.proofs.CountLoop.{counting_moves, one_or_none}
use Rattle.rt_policy.proofs.counting.count_picks.Goals as goal

pub loop-t-preserved : goal.loop-t-preserved
loop-t-preserved c =
    let items = c.picks-t-items.result.now in
    let t : TaskId = get_or items c.loop-t.t-index (record { 0 = 0 }) in
    let rest = picked-drop items c.loop-t.t-index (record { 0 = 0 }) c.loop-t.core.state c.loop-t.last c.loop-t-test.true in
    let e = c.count_next-last.ensures in
    let next = next_event c.loop-t.core.state t in
    let new = c.count_next-last.new in
    let script = c.args.script.now in
    let within : t.0 < length script.tasks = All-get_or (λ (u : TaskId). u.0 < length script.tasks) items c.loop-t.t-index (record { 0 = 0 }) c.loop-t-test.true (rw (c.picks-t-items.ensures.value) c.picks-t-items.ensures.valid.each_pick) in
    let lt : t.0 < length c.loop-t.core.state.threads = subst (λ (n : ℕ). t.0 < n) (sym (IsOf-threads script c.loop-t.core.state (c.loop-t.invariant.0.kept script c.requires.script))) within in
    let short : new.core.made ≤ c.args.core.now.made + (c.loop-t.t-index + 1) = omega (arith, e.made, one_or_none next, c.loop-t.invariant.1) in
    let moved = counting_moves c.args.script.now (picked (drop (suc c.loop-t.t-index) items)) t next new.core.state new.core.made c.count_next-last.result new.counts c.requires.script lt rest c.loop-t.invariant.0 e.moves e.made e.counts e.few e.script in
    (rw (add-one c.loop-t.t-index) moved, short)
