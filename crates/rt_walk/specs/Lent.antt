-- A task that is lent to a call, or none: what it is when it is lent, and when it comes back.
use Rattle.std.proofs.Common.{inl, inr}
use Rattle.std.specs.Prelude.{◌⊎◌, Option, Some, None}
use Rattle.std.specs.Borrow.{MutBor}
use Rattle.rt_model.specs.Parts.{TaskPart}

-- the task as it is lent
abbrev pub lent : Option (MutBor TaskPart) → Option TaskPart
lent None = None
lent (Some task) = Some task.now

-- the task as it comes back, in the form that a call leaves an `Option<&mut TaskCell>` in: a sum of its variants
abbrev pub given_back : Unit {0} ⊎ ((MutBor TaskPart × Unit {0}) ⊎ ⊥) → Option TaskPart
given_back (inr (inl task)) = Some task.0.now
given_back _ = None
