use Rattle.std.proofs.Common.{◌++◌, ℕ, List, take, ap, sym, ◌∙◌, append_assoc, arith}
use Rattle.std.specs.Prelude.{flat_map}
use Rattle.rt_events.specs.Words.{spaced}
use Rattle.rt_events.specs.Line.{link_words}
use Rattle.rt_events.proofs.Paths.{path_more}
use Rattle.rt_events.proofs.operands.push_path.Goals as goal

pub loop-i-preserved : goal.loop-i-preserved
loop-i-preserved c =
    let link : ℕ × ℕ = (c.at.result.0.0, c.at.result.1.0) in
    let before = spaced (flat_map (link_words c.args.script.now) (take c.loop-i.i c.args.path.now)) in
    record {
      text = c.push_link.ensures.text
          ∙ (ap (λ (t : List ℕ). t ++ spaced (link_words c.args.script.now link)) c.loop-i.invariant.text
          ∙ (append_assoc c.args.out.now.items before (spaced (link_words c.args.script.now link))
          ∙ ap (λ (t : List ℕ). c.args.out.now.items ++ t) (sym (path_more c.args.script.now c.args.path.now c.loop-i.i link c.at.ensures.link))));
      grows = omega (arith, c.push_link.ensures.grows, c.loop-i.invariant.grows);
      capacity = omega (arith, c.push_link.ensures.capacity, c.loop-i.invariant.capacity);
    }
