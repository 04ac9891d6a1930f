use Rattle.std.proofs.Common.{◌∙◌, ◌++◌, take, append_assoc, take-append-drop}
use Rattle.rt_base.proofs.Outside.{Appends-then}
use Rattle.rt_base.proofs.writing.write_whole.Goals as goal

pub loop-rest-preserved : goal.loop-rest-preserved
loop-rest-preserved g c =
    let so_far = c.loop-rest.invariant in
    let rest = c.loop-rest.rest.now in
    let n = c.in_ok-taken.taken in
    let held = g.K.Sink.held in (
      so_far.0 ++ take n rest,
      rw (c.split_at.ensures.back, append_assoc, take-append-drop) so_far.1,
      Appends-then (held c.args.out.now) (held c.loop-rest.out) (held c.write_some.new.out) so_far.0 (take n rest) so_far.2 c.in_ok-taken.ensures.appended,
      c.in_ok-taken.ensures.no_fault ∙ so_far.3,
    )
