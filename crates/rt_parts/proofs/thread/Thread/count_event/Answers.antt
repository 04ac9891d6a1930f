use Rattle.std.proofs.Common.{sym, subst, ◌≤◌, ◌+◌}
use Rattle.rt_model.specs.Parts.{ThreadPart}
use Rattle.rt_model.specs.laws.Migration.{pinned}
use Rattle.rt_parts.proofs.Pins.{pins-room}
use Rattle.rt_parts.proofs.thread.Thread.count_event.Goals as goal

pub migration_after-self-inside-requires-clause-room : goal.migration_after-self-inside-requires-clause-room
migration_after-self-inside-requires-clause-room c =
    let counted = subst (λ (thread : ThreadPart). thread.migration ≤ pinned thread + 1) (sym c.self.view_is) c.requires.counted in
    pins-room c.self.inside.kinds.items c.self.inside.calls.items c.self.inside.answered c.self.inside.holds.items c.self.inside.spinning c.self.inside.cpu c.self.inside.call c.self.invariant c.self.inside.migration counted _ _ _ _
