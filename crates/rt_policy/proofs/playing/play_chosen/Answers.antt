use Rattle.std.proofs.Common.{◌+◌, ◌-◌, ◌≤◌, ◌≡◌, arith, vec_capacity, ap, sym, ◌∙◌}
use Rattle.rt_base.proofs.Outside.{on_err}
use Rattle.rt_model.specs.NextEvent.{next_event}
use Rattle.rt_model.specs.Order.{chosen}
use Rattle.rt_core.specs.Core.{Made}
use Rattle.rt_policy.proofs.Loops.{chosen-none, chosen-left, stopped, moved, over, printed_all, chosen_within, looping_begins}
use Rattle.rt_policy.proofs.playing.play_chosen.Goals as goal

pub loop-turn-init : goal.loop-turn-init
loop-turn-init g c =
    let whole = chosen c.args.turns c.args.core.now.state c.args.last in
    let all : c.args.turns - 0 ≡ c.args.turns = omega arith in
    (rw all (looping_begins c.args.script.now c.args.first c.args.core.now.state whole c.args.core.now.made c.args.last (g.K.Sink.held c.args.out.now) c.args.buf.now.items (g.K.Sink.faults c.args.out.now) (vec_capacity c.args.buf.now) c.requires.script c.requires.last), omega arith)

pub returns-in_default-clause-prints : goal.returns-in_default-clause-prints
returns-in_default-clause-prints g c =
    let nobody = chosen-none (c.args.turns - c.loop-turn._turn) c.loop-turn.core.state c.loop-turn.now.last (sym c.pick_next.ensures ∙ c.in_default.is) in
    printed_all c.loop-turn.now (g.K.Sink.faults c.args.out.now) (g.K.Sink.faults c.loop-turn.out) (over nobody c.loop-turn.invariant.0) c.loop-turn.invariant.0.no_fault

pub returns-in_default-clause-state : goal.returns-in_default-clause-state
returns-in_default-clause-state g c =
    let nobody = chosen-none (c.args.turns - c.loop-turn._turn) c.loop-turn.core.state c.loop-turn.now.last (sym c.pick_next.ensures ∙ c.in_default.is) in
    (over nobody c.loop-turn.invariant.0).state

pub returns-in_default-clause-count : goal.returns-in_default-clause-count
returns-in_default-clause-count g c =
    let nobody = chosen-none (c.args.turns - c.loop-turn._turn) c.loop-turn.core.state c.loop-turn.now.last (sym c.pick_next.ensures ∙ c.in_default.is) in
    (over nobody c.loop-turn.invariant.0).told.counted

pub returns-in_err-now-clause-prints : goal.returns-in_err-now-clause-prints
returns-in_err-now-clause-prints g c =
    let rest = chosen-left c.args.turns c.loop-turn._turn c.loop-turn.core.state c.loop-turn.now.last c.in-Some.t c.loop-turn-test.true (sym c.pick_next.ensures ∙ c.in-Some.is) in
    let cut = stopped c.from_residual.result (chosen (c.args.turns - (c.loop-turn._turn + 1))) c.in-Some.t (next_event c.loop-turn.core.state c.in-Some.t) c.play.new.core (g.K.Sink.held c.play.new.out) c.play.new.buf.items (g.K.Sink.faults c.play.new.out)
    rest c.loop-turn.invariant.0 c.in_err-now.ensures.stops (ap (λ (m : Made). m.made) c.in_err-now.ensures.err) c.in_err-now.ensures.cause c.play.ensures.count c.from_residual.ensures.0 in
    cut.0

pub returns-in_err-now-clause-part : goal.returns-in_err-now-clause-part
returns-in_err-now-clause-part g c =
    let rest = chosen-left c.args.turns c.loop-turn._turn c.loop-turn.core.state c.loop-turn.now.last c.in-Some.t c.loop-turn-test.true (sym c.pick_next.ensures ∙ c.in-Some.is) in
    let cut = stopped c.from_residual.result (chosen (c.args.turns - (c.loop-turn._turn + 1))) c.in-Some.t (next_event c.loop-turn.core.state c.in-Some.t) c.play.new.core (g.K.Sink.held c.play.new.out) c.play.new.buf.items (g.K.Sink.faults c.play.new.out)
    rest c.loop-turn.invariant.0 c.in_err-now.ensures.stops (ap (λ (m : Made). m.made) c.in_err-now.ensures.err) c.in_err-now.ensures.cause c.play.ensures.count c.from_residual.ensures.0 in
    on_err c.from_residual.result cut.1

pub loop-turn-preserved : goal.loop-turn-preserved
loop-turn-preserved g c =
    let rest = chosen-left c.args.turns c.loop-turn._turn c.loop-turn.core.state c.loop-turn.now.last c.in-Some.t c.loop-turn-test.true (sym c.pick_next.ensures ∙ c.in-Some.is) in
    let e = c.in_ok-now.ensures in
    let next = moved (chosen (c.args.turns - (c.loop-turn._turn + 1))) c.in-Some.t (next_event c.loop-turn.core.state c.in-Some.t) c.play.new.core.state c.play.new.core.made c.in_ok-now.now (g.K.Sink.held c.play.new.out) c.play.new.buf.items (g.K.Sink.faults c.play.new.out) (vec_capacity c.play.new.buf)
    rest c.loop-turn.invariant.0 e.moves e.made e.no_fault c.play.ensures.capacity c.play.ensures.script e.within in
    let few : c.in_ok-now.now.count ≤ c.loop-turn._turn + 1 = omega (arith, e.few, c.loop-turn.invariant.1) in
    (next, few)

pub play-requires-clause-task : goal.play-requires-clause-task
play-requires-clause-task g c =
    chosen_within c.args.script.now c.loop-turn.core.state c.loop-turn.now.last c.in-Some.t c.loop-turn.invariant.0.script_is (sym c.pick_next.ensures ∙ c.in-Some.is) c.loop-turn.invariant.0.last_in
