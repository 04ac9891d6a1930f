use Rattle.std.proofs.Common.{◌∙◌, ℕ, List, [], ◌∷◌, ◌++◌, ap, codes}
use Rattle.std.specs.Prelude.{decimal}
use Rattle.std.proofs.lemmas.Result.{IfOk-weaker}
use Rattle.rt_top.proofs.MessageWritten.{grouped}
use Rattle.rt_top.proofs.message.bad_script.Goals as goal

pub returns : goal.returns
returns c =
    let head : List ℕ = codes "bad script: line " in
    let middle : List ℕ = codes ", fault " in
    let number = ap (λ (n : ℕ). head ++ (decimal c.args.line ++ (middle ++ (decimal n ++ 10 ∷ [])))) c.fault_number-number.ensures in
    IfOk-weaker c.format.result _ _ (λ text e. e ∙ (number ∙ grouped head (decimal c.args.line) middle (decimal _) (10 ∷ []))) c.format.ensures.ok
