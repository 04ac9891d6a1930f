use Rattle.std.proofs.Common.{◌≡◌, ◌∙◌, ◌<◌, ◌≤◌, ◌+◌, ◌-◌, length, length-set, sym, subst, arith}
use Rattle.std.specs.Prelude.{slice_set}
use Rattle.std.proofs.lemmas.List.Elements.{All-set}
use Rattle.rt_model.specs.declared.hold.Hold.{Hold}
use Rattle.rt_model.specs.Parts.{ThreadPart}
use Rattle.rt_model.specs.events.Own.{spinning_holds}
use Rattle.rt_parts.proofs.Holds.{spinning-least, spinning-most, spinning-set}
use Rattle.rt_parts.proofs.thread.Thread.set_hold.Goals.{After-spinning_hold, After-spinning_hold-2}
use Rattle.rt_parts.proofs.thread.Thread.set_hold.Goals as goal

-- the hold is counted
counted : (c : After-spinning_hold) → c.spinning_hold.result ≤ c.self.inside.spinning
counted c =
    let there = subst (λ (thread : ThreadPart). c.args.l.0 < length thread.kinds) (sym c.self.view_is) c.requires.lock in
    let least = spinning-least c.self.inside.kinds.items c.self.inside.holds.items c.args.l.0 c.index-kind.result.now c.index.result.now there c.self.invariant.holds c.index-kind.ensures c.index.ensures in
    omega (arith, c.spinning_hold.ensures, c.self.invariant.spinning, least)

-- and the one in its place
recounted : (c : After-spinning_hold-2) → c.self.inside.spinning - c.spinning_hold.result + c.spinning_hold-2.result ≡ spinning_holds c.self.inside.kinds.items (slice_set c.self.inside.holds.items c.args.l.0 c.args.hold)
recounted c =
    let there = subst (λ (thread : ThreadPart). c.args.l.0 < length thread.kinds) (sym c.self.view_is) c.requires.lock in
    let least = spinning-least c.self.inside.kinds.items c.self.inside.holds.items c.args.l.0 c.index-kind.result.now c.index.result.now there c.self.invariant.holds c.index-kind.ensures c.index.ensures in
    let set = spinning-set c.self.inside.kinds.items c.self.inside.holds.items c.args.l.0 c.index-kind.result.now c.index.result.now c.args.hold there c.self.invariant.holds c.index-kind.ensures c.index.ensures in
    omega (arith, c.spinning_hold.ensures, c.spinning_hold-2.ensures, c.self.invariant.spinning, least, set)

pub overflow_sub-self : goal.overflow_sub-self
overflow_sub-self c = counted (goal.at.overflow_sub-self c).After-spinning_hold

pub overflow_add-self : goal.overflow_add-self
overflow_add-self c =
    let most = spinning-most c.self.inside.kinds.items (slice_set c.self.inside.holds.items c.args.l.0 c.args.hold) in
    let few = c.self.invariant.few in
    omega (arith, recounted (goal.at.overflow_add-self c).After-spinning_hold-2, most, few)

pub invariant_of-self : goal.invariant_of-self
invariant_of-self c =
    let reads = subst (λ (thread : ThreadPart). c.args.hold.reads ≤ thread.answered) (sym c.self.view_is) c.requires.reads in
    record {
      thread = c.self.invariant.thread;
      few = c.self.invariant.few;
      holds = length-set c.self.inside.holds.items c.args.l.0 _ ∙ c.self.invariant.holds;
      spinning = recounted (goal.at.invariant_of-self c).After-spinning_hold-2;
      reads = All-set (λ (hold : Hold). hold.reads ≤ c.self.inside.answered) c.self.inside.holds.items c.args.l.0 c.args.hold reads c.self.invariant.reads;
      call = c.self.invariant.call;
    }
