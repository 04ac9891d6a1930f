use Rattle.rt_parts.proofs.Holds.{fresh-fits}
use Rattle.rt_parts.proofs.thread.Thread.new.Goals as goal

pub invariant_of-result : goal.invariant_of-result
invariant_of-result c =
    fresh-fits c.args.kinds.now c.args.calls.now _ _ _ c.in_ok-from_slice.ensures.items c.in_ok-from_slice-2.ensures.items (c.in_ok-holds.ensures.items_if_clones_equal (λ y is. is))
    c.args.cpu c.requires.few_locks c.requires.calls _ c.call_at.ensures
