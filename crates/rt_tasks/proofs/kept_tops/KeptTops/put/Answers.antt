use Rattle.std.proofs.Common.{◌<◌, Bool, ap, subst, sym, ◌∙◌, cond, ℕ, List, Option, length}
use Rattle.std.specs.Prelude.{nat_eq}
use Rattle.rt_tasks.specs.LockSet.{has}
use Rattle.rt_tasks.proofs.Tops.{set-put}
use Rattle.rt_tasks.proofs.kept_tops.KeptTops.put.Goals as goal

pub invariant_of-self : goal.invariant_of-self
invariant_of-self c =
    set-put c.self.inside.locks c.put.new.self c.args.l.0 c.self.inside.keys.items c.args.top c.self.invariant
    (subst (λ (kept : List (Option ℕ)). c.args.l.0 < length kept) (sym c.self.view_is) c.requires)
    (λ m low. c.put.ensures m low ∙ ap (λ (t : Bool). cond (nat_eq c.args.l.0 m) t (has c.self.inside.locks m)) c.is_some.ensures)
