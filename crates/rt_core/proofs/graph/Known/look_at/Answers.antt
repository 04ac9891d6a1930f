use Rattle.std.proofs.Common.{sym, ◌∙◌}
use Rattle.rt_core.proofs.GraphRounds.{ended, ended-far}
use Rattle.rt_core.proofs.graph.Known.look_at.Goals as goal

pub returns-then-is_near-clause-known : goal.returns-then-is_near-clause-known
returns-then-is_near-clause-known c = λ t lt known.
    ended c.args.core.now.state c.args.core.now.made c.args.self.now.near c.args.self.now.far c.args.u c.requires.lawful t _ _ c.round_from-round.result.here lt c.round_from-round.ensures.within
    (c.round_from-round.ensures.round t lt) known (sym c.is_near.ensures ∙ c.if-is_near.true) c.join.ensures

pub returns-else-is_near-clause-known : goal.returns-else-is_near-clause-known
returns-else-is_near-clause-known c = λ t lt known.
    ended-far c.args.core.now.state c.args.core.now.made c.args.self.now.near c.args.self.now.far c.args.u c.requires.lawful t _ _ c.round_from-round.result.here lt c.round_from-round.ensures.end
    (c.round_from-round.ensures.round t lt) known (sym c.is_near.ensures ∙ c.if-is_near.false) c.join-else-is_near.ensures
