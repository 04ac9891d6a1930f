use Rattle.std.proofs.Common.{◌+◌, ◌≤◌, None, suc, drop, get_or, add-one, arith, vec_capacity, ap}
use Rattle.rt_base.specs.declared.id.TaskId.{TaskId}
use Rattle.rt_base.proofs.Outside.{on_err}
use Rattle.rt_model.specs.NextEvent.{next_event}
use Rattle.rt_model.specs.Order.{picked}
use Rattle.rt_core.specs.Core.{Made}
use Rattle.rt_policy.proofs.Loops.{picked-drop, stopped, moved, looping_begins}
use Rattle.rt_policy.proofs.playing.play_picks.Goals as goal

pub loop-t-init : goal.loop-t-init
loop-t-init g c =
    let whole = picked c.picks-t-items.result.now c.args.core.now.state None in
    (looping_begins c.args.script.now (c.made-first.result + 1) c.args.core.now.state whole c.args.core.now.made None (g.K.Sink.held c.args.out.now) c.args.buf.now.items (g.K.Sink.faults c.args.out.now) (vec_capacity c.args.buf.now) c.requires.script tt, omega arith)

pub returns-in_err-now-clause-prints : goal.returns-in_err-now-clause-prints
returns-in_err-now-clause-prints g c =
    let items = c.picks-t-items.result.now in
    let t : TaskId = get_or items c.loop-t.t-index (record { 0 = 0 }) in
    let rest = picked-drop items c.loop-t.t-index (record { 0 = 0 }) c.loop-t.core.state c.loop-t.now.last c.loop-t-test.true in
    let cut = stopped c.from_residual.result (picked (drop (suc c.loop-t.t-index) items)) t (next_event c.loop-t.core.state t) c.play.new.core (g.K.Sink.held c.play.new.out) c.play.new.buf.items (g.K.Sink.faults c.play.new.out)
    rest c.loop-t.invariant.0 c.in_err-now.ensures.stops (ap (λ (m : Made). m.made) c.in_err-now.ensures.err) c.in_err-now.ensures.cause c.play.ensures.count c.from_residual.ensures.0 in
    rw (← c.made-first.ensures, ← c.picks-t-items.ensures.value) cut.0

pub returns-in_err-now-clause-part : goal.returns-in_err-now-clause-part
returns-in_err-now-clause-part g c =
    let items = c.picks-t-items.result.now in
    let t : TaskId = get_or items c.loop-t.t-index (record { 0 = 0 }) in
    let rest = picked-drop items c.loop-t.t-index (record { 0 = 0 }) c.loop-t.core.state c.loop-t.now.last c.loop-t-test.true in
    let cut = stopped c.from_residual.result (picked (drop (suc c.loop-t.t-index) items)) t (next_event c.loop-t.core.state t) c.play.new.core (g.K.Sink.held c.play.new.out) c.play.new.buf.items (g.K.Sink.faults c.play.new.out)
    rest c.loop-t.invariant.0 c.in_err-now.ensures.stops (ap (λ (m : Made). m.made) c.in_err-now.ensures.err) c.in_err-now.ensures.cause c.play.ensures.count c.from_residual.ensures.0 in
    rw (← c.picks-t-items.ensures.value) (on_err c.from_residual.result cut.1)

pub loop-t-preserved : goal.loop-t-preserved
loop-t-preserved g c =
    let items = c.picks-t-items.result.now in
    let t : TaskId = get_or items c.loop-t.t-index (record { 0 = 0 }) in
    let rest = picked-drop items c.loop-t.t-index (record { 0 = 0 }) c.loop-t.core.state c.loop-t.now.last c.loop-t-test.true in
    let e = c.in_ok-now.ensures in
    let next = moved (picked (drop (suc c.loop-t.t-index) items)) t (next_event c.loop-t.core.state t) c.play.new.core.state c.play.new.core.made c.in_ok-now.now (g.K.Sink.held c.play.new.out) c.play.new.buf.items (g.K.Sink.faults c.play.new.out) (vec_capacity c.play.new.buf)
    rest c.loop-t.invariant.0 e.moves e.made e.no_fault c.play.ensures.capacity c.play.ensures.script e.within in
    let few : c.in_ok-now.now.count ≤ c.loop-t.t-index + 1 = omega (arith, e.few, c.loop-t.invariant.1) in
    (rw (add-one c.loop-t.t-index) next, few)
