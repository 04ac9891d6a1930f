use Rattle.std.proofs.Common.{◌∙◌, ap}
use Rattle.std.specs.Prelude.{◌&&◌}
use Rattle.rt_model.specs.Run.{is_enabled}
use Rattle.rt_model.specs.Order.{in_walk, is_walking}
use Rattle.rt_core.specs.Core.{with_threads}
use Rattle.rt_core.proofs.KeptSets.{put-right, told-enabled, told-walking}
use Rattle.rt_core.proofs.enabled.Enabled.look_at.Goals as goal

pub returns : goal.returns
returns c = λ u lt was.
    let sh = c.args.shared.now in
    let threads = c.args.threads.now in
    let s = with_threads sh threads in
    let t = c.args.t in
    let thread = c.index-threads-t.result in
    let is = c.can_move-enabled.ensures in
    record {
      enabled = put-right (is_enabled s) c.args.self.now.all _ t.0 u.0 _ (c.put.ensures u.0 lt) (is ∙ told-enabled sh threads t thread _ c.requires.task c.index-threads-t.is c.task.ensures.part) (λ ne. (was ne).enabled);
      walking = put-right (is_walking s) c.args.self.now.walking _ t.0 u.0 _ (c.put-2.ensures u.0 lt)
          (c.is_walking.ensures ∙ (ap (λ b. in_walk thread.phase && b) is ∙ told-walking sh threads t thread _ c.requires.task c.index-threads-t.is c.task.ensures.part)) (λ ne. (was ne).walking);
    }
