-- Responsible-walker law.
use Rattle.std.specs.Prelude.{◌≡◌, ◌≢◌, ℕ, List, [], ◌∷◌, ◌++◌}
use Rattle.rt_model.specs.declared.phase.Phase.{Phase}
use Rattle.rt_model.specs.declared.phase.Phase.TheVariants.{Walk, Confirm}
use Rattle.rt_model.specs.declared.phase.Route.TheVariants.{Full}
use Rattle.rt_model.specs.State.{State, thread_part}
use Rattle.rt_model.specs.Path.{IsCycle}

-- the same round, begun at another of its tasks
pub record IsTurned (path turned : List (ℕ × ℕ)) : Type 0 where
  pub front : List (ℕ × ℕ)
  pub back : List (ℕ × ℕ)
  pub before : path ≡ front ++ back
  pub after : turned ≡ back ++ front

-- a full walk has followed one or more links of the cycle, from its begin on, and stands at the next one's task
pub record IsPartOf (cycle path : List (ℕ × ℕ)) (cursor : ℕ) : Type 0 where
  pub some : path ≢ []
  pub next : ℕ × ℕ
  pub rest : List (ℕ × ℕ)
  pub along : cycle ≡ path ++ next ∷ rest
  pub stands : cursor ≡ next.0

-- a walk goes along the cycle: it has followed a part of it, or all, and is to confirm that
abbrev pub IsAlong : List (ℕ × ℕ) → Phase → Type 0
IsAlong cycle (Walk cursor (Full path)) = IsPartOf cycle path cursor.0
IsAlong cycle (Confirm path) = path ≡ cycle
IsAlong cycle _ = ⊥

-- the first task of a cycle is responsible for it: its walk goes along it
abbrev pub IsResponsible : State → List (ℕ × ℕ) → Type 0
IsResponsible s [] = ⊥
IsResponsible s (pair ∷ path) = IsAlong (pair ∷ path) (thread_part s (record { 0 = pair.0 })).phase

-- each cycle has a member that is responsible for it
abbrev pub ResponsibleLaw : State → Type 0
ResponsibleLaw s = (cycle : List (ℕ × ℕ)) → IsCycle s cycle → (turned : List (ℕ × ℕ)) × IsTurned cycle turned × IsResponsible s turned
