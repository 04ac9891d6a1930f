use Rattle.std.proofs.Common.{All, take}
use Rattle.rt_events.specs.WellFormed.{IsLinkIn}
use Rattle.rt_events.proofs.well_formed.has_links.Given as goal

abbrev pub invariant-loop-i : goal.invariant-loop-i
invariant-loop-i l = All (IsLinkIn l.script) (take l.i l.path)
