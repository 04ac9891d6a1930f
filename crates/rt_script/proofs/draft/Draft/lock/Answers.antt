use Rattle.std.proofs.Common.{◌≡◌}
use Rattle.rt_script.proofs.OwnNames.{new_locks}
use Rattle.rt_script.proofs.draft.Draft.lock.Goals as goal

pub push_locks-requires-clause-added : goal.push_locks-requires-clause-added
push_locks-requires-clause-added c =
    let cpus : c.cpus.result ≡ c.args.self.now.script.cpus = rw (← c.script.ensures) c.cpus.ensures.number in
    let added = new_locks c.args.self.now.script _ _ _ _ c.in-Some.kind c.in_ok-locks.ensures cpus c.as_str.ensures.value c.in_ok-name-2.ensures.shape c.in_ok-name-2.ensures.free in
    rw (← c.self.view_is) at added
