-- What holds at rest.
use Rattle.std.proofs.Common.{◌≡◌, ◌⊎◌, inl, inr, ℕ, zero, suc, ◌+◌, ◌<◌, ◌≤◌, true, List, [], ◌∷◌, ◌++◌, length, refl, ap, ◌∙◌, arith, All}
use Rattle.std.proofs.lemmas.List.Elements.{All-cons, All-nil}
use Rattle.rt_base.specs.declared.id.TaskId.{TaskId}
use Rattle.rt_model.specs.declared.event.Event.{Event}
use Rattle.rt_model.specs.declared.phase.Phase.{Phase}
use Rattle.rt_model.specs.declared.phase.Phase.TheVariants.{Walk, Confirm}
use Rattle.rt_model.specs.Parts.{effective_of}
use Rattle.rt_model.specs.State.{State, task_part, thread_part}
use Rattle.rt_model.specs.Run.{after, IsRun}
use Rattle.rt_model.specs.Order.{in_walk}
use Rattle.rt_model.specs.Path.{first_task, IsCycle}
use Rattle.rt_model.specs.Graph.{Reaches, at_once, onward, IsGraphPriority}
use Rattle.rt_model.specs.laws.Lawful.{IsLawful}
use Rattle.rt_model.specs.laws.Responsible.{IsAlong, IsResponsible}
use Rattle.rt_model.specs.laws.Rest.{IsAtRest, RestLaw}
use Rattle.rt_model.proofs.Paths.{few-differ}
use Rattle.rt_model.proofs.graph.Back.{IsWay, way-none, way-reaches, way-back}
use Rattle.rt_model.proofs.graph.Reaching.{leads-there, leads-apart}
use Rattle.rt_model.proofs.graph.Waiting.{effective-own, leads-falls, own-or-behind}
use Rattle.rt_model.proofs.Prefixes.{lawful-there}

-- ---- cycles

-- a walk along a cycle is pending
along-walks : (cycle : List (ℕ × ℕ)) (phase : Phase) → IsAlong cycle phase → in_walk phase ≡ true
along-walks cycle (Walk cursor route) along = refl
along-walks cycle (Confirm path) along = refl
along-walks cycle _ along = absurd along

-- and so is one of a task that is responsible
responsible-walks : (s : State) (cycle : List (ℕ × ℕ)) → IsResponsible s cycle → IsAtRest s → ⊥
responsible-walks s [] responsible rest = responsible
responsible-walks s (pair ∷ path) responsible rest =
    let walks : in_walk (thread_part s (record { 0 = pair.0 })).phase ≡ true = along-walks (pair ∷ path) (thread_part s (record { 0 = pair.0 })).phase responsible in
    let none = rest (record { 0 = pair.0 }) in
    absurd cc

-- a priority is the own one of the task, or of one from which edges lead to it
abbrev One : State → TaskId → ℕ → Type 0
One s t prio = (prio ≡ (task_part s t).own) ⊎ ((u : TaskId) × Reaches s u t × (prio ≡ (task_part s u).own))

module _ (s : State) (made : ℕ) (lawful : IsLawful s made) (rest : IsAtRest s) where
  -- so none stands
  no-cycle : (cycle : List (ℕ × ℕ)) → IsCycle s cycle → ⊥
  no-cycle cycle stands = let responsible = lawful.responsible cycle stands in responsible-walks s responsible.0 responsible.2 rest

  -- ---- priorities

  -- who leads to a task has no better priority than that one
  falls : (u t : TaskId) → Reaches s u t → effective_of (task_part s t) ≤ effective_of (task_part s u)
  falls u t (at_once {t = a} {u = b} leads) = leads-falls s made lawful rest a b leads
  falls u t (onward {t = a} {u = b} {v = c} leads reaches) = let first = leads-falls s made lawful rest a b leads in let others = falls b c reaches in omega (arith, first, others)

  -- the priority is the own one of the task at the begin of a way
  attained : (t : TaskId) (path : List (ℕ × ℕ)) → IsWay s t path → effective_of (task_part s t) ≡ (task_part s (first_task t path)).own → One s t (effective_of (task_part s t))
  attained t path way is = elim (way-reaches s t path way) [
    | inl same ↦ inl (is ∙ ap (λ (u : TaskId). (task_part s u).own) same)
    | inr reaches ↦ inr (first_task t path, reaches, is)
  ]

  -- on the way back from t there are at most as many tasks as there are
  back : (t : TaskId) (fuel : ℕ) (path : List (ℕ × ℕ)) → length path + fuel ≡ suc (length s.tasks) → All (λ (pair : ℕ × ℕ). pair.0 < length s.tasks) path → IsWay s t path
      → effective_of (task_part s t) ≡ effective_of (task_part s (first_task t path)) → One s t (effective_of (task_part s t))
  back t zero path long within way is = let few = few-differ (length s.tasks) path within way.differ in absurd (omega (arith, few, long))
  back t (suc fuel) path long within way is = elim (own-or-behind s made lawful rest (first_task t path)) [
    | inl own ↦ attained t path way (is ∙ own)
    | inr behind ↦ elim (way-back s (leads-apart s lawful.queued) t behind.task path way behind.leads) [
      | inl (cycle, stands) ↦ absurd (no-cycle cycle stands)
      | inr longer ↦
          back t fuel ((behind.task.0, behind.leads.0.0) ∷ path) (omega (arith, long))
          (All-cons (λ (pair : ℕ × ℕ). pair.0 < length s.tasks) (behind.task.0, behind.leads.0.0) path (leads-there s behind.task (first_task t path) behind.leads) within) longer (is ∙ behind.is)
    ]
  ]

  -- so the effective priority is the graph priority
  priority : (t : TaskId) → IsGraphPriority s t (effective_of (task_part s t))
  priority t = record {
    own = effective-own s made lawful t;
    others = λ u reaches. let far = falls u t reaches in let here = effective-own s made lawful u in omega (arith, far, here);
    one = back t (suc (length s.tasks)) [] (omega arith) (All-nil (λ (pair : ℕ × ℕ). pair.0 < length s.tasks)) (way-none s t) refl;
  }

-- a lawful state has what holds at rest
pub RestLaw-lawful : (s : State) (made : ℕ) → IsLawful s made → RestLaw s
RestLaw-lawful s made lawful = record { priorities = priority s made lawful; cycles = no-cycle s made lawful }

-- a graph priority is one number
pub one-priority : (s : State) (t : TaskId) (prio other : ℕ) → IsGraphPriority s t prio → IsGraphPriority s t other → prio ≡ other
one-priority s t prio other is also = omega (arith, below prio other is also, below other prio also is)
  where
    below : (a b : ℕ) → IsGraphPriority s t a → IsGraphPriority s t b → a ≤ b
    below a b first second = elim second.one [
      | inl own ↦ omega (arith, first.own, own)
      | inr (u, reaches, own) ↦ omega (arith, first.others u reaches, own)
    ]

-- ---- over a run

-- every state along a run from a lawful one
pub rest-sound : (s : State) (made : ℕ) (events : List Event) → IsLawful s made → IsRun s events → (prefix rest : List Event) → prefix ++ rest ≡ events → RestLaw (after s prefix)
rest-sound s made events lawful run prefix rest is = RestLaw-lawful (after s prefix) (made + length prefix) (lawful-there s made events lawful run prefix rest is)
