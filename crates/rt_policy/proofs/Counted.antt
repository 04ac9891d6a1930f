-- Counts of more events.
use Rattle.std.proofs.Common.{◌≡◌, ℕ, ◌+◌, ◌≤◌, Bool, true, false, List, [], ◌∷◌, ◌++◌, sym, ap, ◌∙◌, arith}
use Rattle.std.proofs.lemmas.List.Sums.{sum_by_push}
use Rattle.rt_base.specs.declared.reply.Reply.{Reply}
use Rattle.rt_model.specs.declared.event.Event.{Event}
use Rattle.rt_model.specs.declared.event_kind.EventKind.{EventKind}
use Rattle.rt_policy.specs.Counts.{Counted, AreCountsOf, AreAtMost, is_kind, is_reply, kind_count, reply_count, one_if}

-- one event more
pub record IsOneMore (before after : Counted) (e : Event) : Type 0 where
  pub kinds : (kind : EventKind) → kind_count after kind ≡ kind_count before kind + one_if (is_kind kind e.kind)
  pub replies : (reply : Reply) → reply_count after reply ≡ reply_count before reply + one_if (is_reply reply e.reply)

pub counts-push : (before after : Counted) (e : Event) (events : List Event) → IsOneMore before after e → AreCountsOf before events → AreCountsOf after (events ++ e ∷ [])
counts-push before after e events more counts = record {
  kinds = λ kind. more.kinds kind ∙ (ap (λ n. n + one_if (is_kind kind e.kind)) (counts.kinds kind) ∙ sym (sum_by_push (λ (x : Event). one_if (is_kind kind x.kind)) events e));
  replies = λ reply. more.replies reply ∙ (ap (λ n. n + one_if (is_reply reply e.reply)) (counts.replies reply) ∙ sym (sum_by_push (λ (x : Event). one_if (is_reply reply x.reply)) events e));
}

one_at_most : (b : Bool) → one_if b ≤ 1
one_at_most true = omega arith
one_at_most false = omega arith

pub few-push : (before after : Counted) (e : Event) (n : ℕ) → IsOneMore before after e → AreAtMost n before → AreAtMost (n + 1) after
few-push before after e n more few = record {
  kinds = λ kind. omega (arith, more.kinds kind, few.kinds kind, one_at_most (is_kind kind e.kind));
  replies = λ reply. omega (arith, more.replies reply, few.replies reply, one_at_most (is_reply reply e.reply));
}
