use Rattle.rt_model.specs.Footprint.{footprint, touches}
use Rattle.rt_events.proofs.Shared.{no_object}
use Rattle.rt_events.proofs.footprint.disjoint.Goals as goal

pub returns : goal.returns
returns c = no_object (touches c.args.b.now) (footprint c.args.a.now) c.meets.result c.meets.ensures
