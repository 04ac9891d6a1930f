use Rattle.std.proofs.Common.{sym}
use Rattle.rt_script.proofs.Naming.{IsUtf8-from_name}
use Rattle.rt_script.proofs.draft.Draft.new_name.Goals as goal

pub returns-in-Err-clause-name : goal.returns-in-Err-clause-name
returns-in-Err-clause-name c = absurd (c.in-Err.ensures.cases.0 (IsUtf8-from_name c.args.word.now (sym c.if-not-is_name.ensures)))
