-- How many events of a list are of a kind, and how many give a reply.
use Rattle.std.specs.Prelude.{◌≡◌, ℕ, ◌≤◌, Bool, false, List, Option, Some, None, count_by, if◌then◌else◌}
use Rattle.std.specs.List.{slice_index_or}
use denote.Enum.Bare.{sameb}
use denote.Enum.Declared.{tag_of}
use Rattle.rt_base.specs.declared.reply.Reply.{Reply}
use Rattle.rt_base.specs.contracts.reply.Reply as replies
use Rattle.rt_model.specs.declared.event.Event.{Event}
use Rattle.rt_model.specs.declared.event_kind.EventKind.{EventKind}
use Rattle.rt_model.specs.contracts.event_kind.EventKind as kinds

-- `==` on kinds
abbrev pub is_kind : EventKind → EventKind → Bool
is_kind = sameb kinds.the_type

-- the call is answered, and so
abbrev pub is_reply : Reply → Option Reply → Bool
is_reply reply None = false
is_reply reply (Some given) = sameb replies.the_type reply given

-- how many of these events are of the kind
abbrev pub of_kind : EventKind → List Event → ℕ
of_kind kind events = count_by (λ (e : Event). is_kind kind e.kind) events

-- how many of these events answer a call so
abbrev pub with_reply : Reply → List Event → ℕ
with_reply reply events = count_by (λ (e : Event). is_reply reply e.reply) events

-- a count for each kind and for each reply, in the order in which they are declared
pub record Counted : Type 0 where
  pub kinds : List ℕ
  pub replies : List ℕ

-- the count of a kind
abbrev pub kind_count : Counted → EventKind → ℕ
kind_count counted kind = slice_index_or counted.kinds (tag_of kinds.the_type kind) 0

-- the count of a reply
abbrev pub reply_count : Counted → Reply → ℕ
reply_count counted reply = slice_index_or counted.replies (tag_of replies.the_type reply) 0

-- these are the counts of that list
pub record AreCountsOf (counted : Counted) (events : List Event) : Type 0 where
  pub kinds : (kind : EventKind) → kind_count counted kind ≡ of_kind kind events
  pub replies : (reply : Reply) → reply_count counted reply ≡ with_reply reply events

-- 1 where the test passes
abbrev pub one_if : Bool → ℕ
one_if b = if b then 1 else 0

-- no count is above that number
pub record AreAtMost (n : ℕ) (counted : Counted) : Type 0 where
  pub kinds : (kind : EventKind) → kind_count counted kind ≤ n
  pub replies : (reply : Reply) → reply_count counted reply ≤ n
