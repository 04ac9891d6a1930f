use Rattle.std.proofs.Common.{◌≡◌, ◌++◌, take, flat_map}
use Rattle.rt_policy.specs.Counts.{reply_count}
use Rattle.rt_top.specs.Summary.{replies_line}
use Rattle.rt_top.proofs.summary.push_answers.Given as goal

abbrev pub invariant-loop-reply : goal.invariant-loop-reply
invariant-loop-reply l = l.out.items ≡ l.initial.out.items ++ flat_map (λ reply. replies_line reply (reply_count l.counts reply)) (take l.reply-index l.answers)
