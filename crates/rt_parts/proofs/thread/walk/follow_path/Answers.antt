use Rattle.std.proofs.Common.{◌∙◌, ap, sym, arith, ℕ, List, Some}
use Rattle.std.proofs.lemmas.List.{take_all}
use Rattle.rt_base.specs.declared.reply.Reply.TheVariants.{Done}
use Rattle.rt_model.specs.declared.phase.Phase.TheVariants.{Walk}
use Rattle.rt_model.specs.declared.phase.Route.TheVariants.{Full}
use Rattle.rt_parts.proofs.thread.walk.follow_path.Goals as goal

pub returns-in-To : goal.returns-in-To
returns-in-To c = λ owner task is. ap (λ (path : List (ℕ × ℕ)). Some (Walk c.in-To.task (Full path))) c.cut.ensures ∙ c.in-To.ensures.goes_on Done owner task is

-- nothing is to be cut
pub returns-else-keep-len : goal.returns-else-keep-len
returns-else-keep-len c = λ owner task is.
    let all = take_all c.in-To.keep c.args.path.now (omega (arith, c.if-keep-len.false, c.len.ensures.links)) in
    ap (λ (path : List (ℕ × ℕ)). Some (Walk c.in-To.task (Full path))) (sym all) ∙ c.in-To.ensures.goes_on Done owner task is
