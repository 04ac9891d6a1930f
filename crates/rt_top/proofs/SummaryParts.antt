-- The parts of a summary, one after another.
use Rattle.std.proofs.Common.{◌≡◌, ◌∙◌, ℕ, List, ◌++◌, flat_map, ap}
use Rattle.rt_base.specs.declared.ended.Ended.{Ended}
use Rattle.rt_base.specs.declared.reply.Reply.{Reply}
use Rattle.rt_model.specs.declared.event.Event.{Event}
use Rattle.rt_model.specs.declared.event_kind.EventKind.{EventKind}
use Rattle.rt_events.specs.Journal.{end_line}
use Rattle.rt_policy.specs.Counts.{AreCountsOf, Counted, kind_count, of_kind, reply_count, with_reply}
use Rattle.rt_top.specs.Summary.{events_line, replies_line}

-- a head, the lines of these kinds and of these replies as they are counted, and the end line
pub parts : (counted : Counted) (events : List Event) (ended : Ended) (kinds : List EventKind) (replies : List Reply) (head t1 t2 t3 t4 : List ℕ) → AreCountsOf counted events
    → t1 ≡ head → t2 ≡ t1 ++ flat_map (λ kind. events_line kind (kind_count counted kind)) kinds
    → t3 ≡ t2 ++ flat_map (λ reply. replies_line reply (reply_count counted reply)) replies → t4 ≡ t3 ++ end_line ended
    → t4 ≡ head ++ flat_map (λ kind. events_line kind (of_kind kind events)) kinds ++ flat_map (λ reply. replies_line reply (with_reply reply events)) replies ++ end_line ended
parts counted events ended kinds replies head t1 t2 t3 t4 are e1 e2 e3 e4 =
    e4 ∙ (ap (λ t. t ++ end_line ended) (e3 ∙ ap (λ t. t ++ flat_map (λ reply. replies_line reply (reply_count counted reply)) replies) (e2 ∙ ap (λ t. t ++ flat_map (λ kind. events_line kind (kind_count counted kind)) kinds) e1))
    ∙ (λ i. ((head ++ flat_map (λ kind. events_line kind (are.kinds kind i)) kinds) ++ flat_map (λ reply. replies_line reply (are.replies reply i)) replies) ++ end_line ended))
