use Rattle.std.proofs.Common.{◌∙◌, [], ◌∷◌, codes}
use Rattle.std.specs.Prelude.{decimal}
use Rattle.std.proofs.lemmas.Result.{IfOk-weaker}
use Rattle.rt_top.proofs.MessageWritten.{grouped}
use Rattle.rt_top.proofs.message.illegal.Goals as goal

pub returns : goal.returns
returns c = IfOk-weaker c.format.result _ _ (λ text e. e ∙ grouped (codes "illegal ") (decimal c.args.line) (codes " ") (decimal c.args.why) (10 ∷ [])) c.format.ensures.ok
