-- Edges between tasks, and where they lead.
use Rattle.std.proofs.Common.{◌≡◌, ◌⊎◌, inl, inr, ℕ, ◌<◌, true, false, length, sym, ap, ◌∙◌, subst, refl, IfSome, Option, Some, None, unwrap_or}
use Rattle.std.specs.Prelude.{option_map, option_and_then}
use Rattle.std.proofs.lemmas.Bool.{cases_lt}
use Rattle.std.proofs.lemmas.Option.{slice_get_past}
use Rattle.rt_base.specs.declared.id.LockId.{LockId}
use Rattle.rt_base.specs.declared.id.TaskId.{TaskId}
use Rattle.rt_model.specs.Parts.{OwnerPart, TaskPart}
use Rattle.rt_model.specs.State.{State, free_lock, no_task, owner_part, task_part}
use Rattle.rt_model.specs.Path.{is_blocked_on}
use Rattle.rt_model.specs.Graph.{Leads, leads_to, Reaches, at_once, onward}
use Rattle.rt_model.specs.laws.Owners.{owned_by}
use Rattle.rt_model.specs.laws.Queued.{QueuedLaw}
use Rattle.rt_model.specs.laws.Shape.{IsShaped}
use Rattle.rt_model.proofs.Lists.{All-read}
use Rattle.rt_model.proofs.Numbers.{number_itself}
use Rattle.rt_model.proofs.graph.Standing.{lock-blocked, blocked-lock}

-- ---- edges

-- a task from which an edge leads is there
pub leads-there : (s : State) (t u : TaskId) → Leads s t u → t.0 < length s.tasks
leads-there s t u (l, edge) = elim (cases_lt t.0 (length s.tasks)) [
  | inl lt ↦ lt
  | inr past ↦ absurd (nobody (subst (λ (task : TaskPart). is_blocked_on l task ≡ true) (ap (λ (o : Option TaskPart). unwrap_or o no_task) (slice_get_past s.tasks t.0 past)) edge.blocked))
]
  where
    nobody : false ≡ true → ⊥
    nobody is = cc

-- and so is one to which it leads, where owners are there
abbrev pub OwnersThere : State → Type 0
OwnersThere s = (l : LockId) → IfSome (owner_part s l).owner (λ o. o.0 < length s.tasks)

pub leads-within : (s : State) → OwnersThere s → (t u : TaskId) → Leads s t u → u.0 < length s.tasks
leads-within s owners t u (l, edge) = subst (λ (o : Option TaskId). IfSome o (λ p. p.0 < length s.tasks)) edge.owned (owners l)

pub owners-there : (s : State) → IsShaped s → OwnersThere s
owners-there s shaped l =
    subst (λ (n : ℕ). IfSome (owner_part s l).owner (λ o. o.0 < n)) (sym shaped.tasks)
    (All-read (λ (lock : OwnerPart). IfSome lock.owner (λ o. o.0 < length s.threads)) s.locks l.0 free_lock shaped.owners tt)

-- it doesn't lead to the task itself
pub leads-apart : (s : State) → QueuedLaw s → (t : TaskId) → Leads s t t → ⊥
leads-apart s queued t (l, edge) = by_lock (task_part s t).blocked (queued.waiting t) (lock-blocked (task_part s t).blocked l edge.blocked)
  where
    by_lock : (at : Option (LockId × ℕ)) → IfSome at (λ a. owned_by (owner_part s a.0).owner t ≡ false) → option_map (λ (a : LockId × ℕ). a.0) at ≡ Some l → ⊥
    by_lock None waiting is = absurd cc
    by_lock (Some at) waiting is =
        let same : at.0 ≡ l = cc in
        let owned : owned_by (owner_part s l).owner t ≡ true = ap (λ (o : Option TaskId). owned_by o t) edge.owned ∙ number_itself t.0 in
        let unowned : owned_by (owner_part s l).owner t ≡ false = subst (λ (m : LockId). owned_by (owner_part s m).owner t ≡ false) same waiting in
        absurd cc

-- where a task's edge leads, as it is computed
pub leads-to : (s : State) (t u : TaskId) → Leads s t u → leads_to s t ≡ Some u
leads-to s t u (l, edge) = by_lock (task_part s t).blocked (lock-blocked (task_part s t).blocked l edge.blocked)
  where
    by_lock : (at : Option (LockId × ℕ)) → option_map (λ (a : LockId × ℕ). a.0) at ≡ Some l → option_and_then (λ (a : LockId × ℕ). (owner_part s a.0).owner) at ≡ Some u
    by_lock None is = absurd cc
    by_lock (Some at) is = let same : at.0 ≡ l = cc in ap (λ (m : LockId). (owner_part s m).owner) same ∙ edge.owned

pub to-leads : (s : State) (t u : TaskId) → leads_to s t ≡ Some u → Leads s t u
to-leads s t u is = by_lock (task_part s t).blocked refl is
  where
    by_lock : (at : Option (LockId × ℕ)) → (task_part s t).blocked ≡ at → option_and_then (λ (a : LockId × ℕ). (owner_part s a.0).owner) at ≡ Some u → Leads s t u
    by_lock None at owned = absurd cc
    by_lock (Some (l, key)) at owned =
        (l, record { blocked = blocked-lock (task_part s t).blocked l (ap (λ (o : Option (LockId × ℕ)). option_map (λ (a : LockId × ℕ). a.0) o) at); owned = owned })

-- a task has one edge at most
pub one-edge : (s : State) (t u v : TaskId) → Leads s t u → Leads s t v → u ≡ v
one-edge s t u v first second = let one = leads-to s t u first in let other = leads-to s t v second in cc

-- ---- edges one after another

-- one leads on
pub reaches-join : (s : State) (t u v : TaskId) → Reaches s t u → Reaches s u v → Reaches s t v
reaches-join s t u v (at_once {t = a} {u = b} leads) rest = onward leads rest
reaches-join s t u v (onward {t = a} {u = b} {v = c} leads reaches) rest = onward leads (reaches-join s b c v reaches rest)

-- an edge to the task itself, or to one that leads to it
pub leads-on : (s : State) (t u v : TaskId) → Leads s t u → (u ≡ v) ⊎ Reaches s u v → Reaches s t v
leads-on s t u v leads (inl same) = at_once (subst (Leads s t) same leads)
leads-on s t u v leads (inr reaches) = onward leads reaches

-- who leads to a task leads to it by its only edge
pub by-edge : (s : State) (t u v : TaskId) → Leads s t u → Reaches s t v → (u ≡ v) ⊎ Reaches s u v
by-edge s t u v edge (at_once {t = a} {u = b} leads) = inl (one-edge s a u b edge leads)
by-edge s t u v edge (onward {t = a} {u = b} {v = c} leads reaches) = inr (subst (λ (w : TaskId). Reaches s w c) (one-edge s a b u leads edge) reaches)

-- tasks whose edges lead to none but themselves lead to none but themselves; so where a task has no edge, and where a round of edges
-- comes back to itself
pub stays-in : (s : State) (In : TaskId → Type 0) → ((t u : TaskId) → In t → Leads s t u → In u) → (t u : TaskId) → In t → Reaches s t u → In u
stays-in s In closed t u is (at_once {t = a} {u = b} leads) = closed a b is leads
stays-in s In closed t u is (onward {t = a} {u = b} {v = c} leads reaches) = stays-in s In closed b c (closed a b is leads) reaches

-- a task without an edge leads nowhere
pub no-edge : (s : State) (t u : TaskId) → leads_to s t ≡ None → Reaches s t u → ⊥
no-edge s t u none (at_once {t = a} {u = b} leads) = let some = leads-to s a b leads in absurd cc
no-edge s t u none (onward {t = a} {u = b} {v = c} leads reaches) = let some = leads-to s a b leads in absurd cc
