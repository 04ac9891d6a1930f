use Rattle.std.proofs.Common.{◌≡◌, ◌<◌, ℕ, List, ◌++◌, length, Ok, ap, ◌∙◌}
use Rattle.rt_base.specs.Script.{Script, IsScript}
use Rattle.rt_script.specs.Canonical.{canonical}
use Rattle.rt_script.specs.Grammar.{script_of}
use Rattle.rt_base.specs.declared.limits.TheConstants.{TEXT_LIMIT}
use Rattle.rt_script.proofs.Written.{parses}
use Rattle.rt_script.proofs.WrittenSize.{short}
use Rattle.rt_script.proofs.script.Script.write.Goals as goal

read : (s : Script) (text : List ℕ) → IsScript s → text ≡ canonical s → script_of text ≡ Ok s
read s text h is = rw is (parses s h)

taken : (s : Script) (text : List ℕ) → IsScript s → text ≡ canonical s → length text < TEXT_LIMIT
taken s text h is = rw is (short s h)

pub returns-clause-parses : goal.returns-clause-parses
returns-clause-parses c = read c.args.self.now c.push_text.new.out.items c.in_ok-push_text.ensures.valid (c.in_ok-push_text.ensures.text ∙ ap (λ (old : List ℕ). old ++ canonical c.args.self.now) c.new-text.ensures.items)

pub returns-clause-short : goal.returns-clause-short
returns-clause-short c = taken c.args.self.now c.push_text.new.out.items c.in_ok-push_text.ensures.valid (c.in_ok-push_text.ensures.text ∙ ap (λ (old : List ℕ). old ++ canonical c.args.self.now) c.new-text.ensures.items)
