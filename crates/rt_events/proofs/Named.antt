-- What a well formed entry names is the script's.
use Rattle.std.proofs.Common.{◌≡◌, ℕ, ◌≤◌, List, [], ◌∷◌, sym, subst, Option, Some, None, All, IfSome}
use Rattle.std.specs.Prelude.{IsSomeAnd}
use Rattle.std.proofs.lemmas.List.Elements.{All-head, All-nil}
use Rattle.rt_base.specs.Script.{Script}
use Rattle.rt_base.specs.declared.id.LockId.{LockId}
use Rattle.rt_base.specs.declared.id.TaskId.{TaskId}
use Rattle.rt_model.specs.declared.event_kind.EventKind.{EventKind}
use Rattle.rt_model.specs.declared.event_kind.EventKind.TheVariants as kinds
use Rattle.rt_model.specs.Path.{first_lock}
use Rattle.rt_events.specs.declared.entry.Entry.{Entry}
use Rattle.rt_events.specs.WellFormed.{IsTaskIn, IsLockIn, IsLinkIn, HasLock, HasOther, HasWoken, HasPath, IsWellFormed, IsNamedIn}

-- what isn't there names nothing, and what has to be there may be
none_named : {A : Type 0} (P : A → Type 0) (o : Option A) → o ≡ None → IfSome o P
none_named P o is = subst (λ (x : Option _). IfSome x P) (sym is) tt

some_named : {A : Type 0} (P : A → Type 0) (o : Option A) → IsSomeAnd o P → IfSome o P
some_named P None is = absurd is
some_named P (Some x) is = is

first_named : (script : Script) (path : List (ℕ × ℕ)) → All (IsLinkIn script) path → IfSome (first_lock path) (IsLockIn script)
first_named script [] all = tt
first_named script (link ∷ links) all = (All-head (IsLinkIn script) link links all).1

path_named : (kind : EventKind) (script : Script) (path : List (ℕ × ℕ)) → HasPath kind script path → All (IsLinkIn script) path
path_named kinds.Cycle script path is = is.2
path_named _ script path is = subst (All (IsLinkIn script)) (sym is) (All-nil (IsLinkIn script))

lock_named : (kind : EventKind) (script : Script) (n : Entry) → HasLock kind script n → All (IsLinkIn script) n.path → IfSome n.lock (IsLockIn script)
lock_named kinds.WalkEnd script n is all = none_named (IsLockIn script) n.lock is
lock_named kinds.State script n is all = none_named (IsLockIn script) n.lock is
lock_named kinds.Sched script n is all = none_named (IsLockIn script) n.lock is
lock_named kinds.Wake script n is all = none_named (IsLockIn script) n.lock is
lock_named kinds.SetPrio script n is all = none_named (IsLockIn script) n.lock is
lock_named kinds.Cycle script n is all = subst (λ (o : Option LockId). IfSome o (IsLockIn script)) (sym is) (first_named script n.path all)
lock_named kinds.Own script n is all = is
lock_named _ script n is all = some_named (IsLockIn script) n.lock is

other_named : (kind : EventKind) (script : Script) (n : Entry) → HasOther kind script n → IfSome n.other (IsTaskIn script)
other_named kinds.Walk script n is = some_named (IsTaskIn script) n.other is
other_named kinds.WalkEnd script n is = some_named (IsTaskIn script) n.other is
other_named kinds.Restart script n is = some_named (IsTaskIn script) n.other is
other_named kinds.Wake script n is = some_named (IsTaskIn script) n.other is
other_named kinds.SetPrio script n is = some_named (IsTaskIn script) n.other is
other_named _ script n is = none_named (IsTaskIn script) n.other is

woken_named : (kind : EventKind) (script : Script) (n : Entry) → HasWoken kind script n → IfSome n.woken (IsTaskIn script)
woken_named kinds.Walk script n is = is
woken_named kinds.Give script n is = is
woken_named kinds.WWake script n is = is
woken_named _ script n is = none_named (IsTaskIn script) n.woken is

boost_named : (script : Script) (boost : Option (TaskId × ℕ)) → IfSome boost (λ boost. IsTaskIn script boost.0 × (boost.1 ≤ 139)) → IfSome boost (λ boost. IsTaskIn script boost.0)
boost_named script None is = tt
boost_named script (Some b) is = is.0

pub named : (script : Script) (n : Entry) → IsWellFormed script n → IsNamedIn script n
named script n is =
    let path = path_named n.kind script n.path is.path in
    record {
      task = is.task;
      lock = lock_named n.kind script n is.lock path;
      other = other_named n.kind script n is.other;
      woken = woken_named n.kind script n is.woken;
      path = path;
      boost = boost_named script n.boost is.boost;
    }
