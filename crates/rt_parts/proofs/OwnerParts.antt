-- The owner parts of lock cells.
use Rattle.std.proofs.Common.{◌≡◌, ◌∙◌, ℕ, zero, suc, ◌<◌, List, [], ◌∷◌, length, refl, ap, arith, get_or, replicate, unwrap_or}
use Rattle.std.specs.Prelude.{slice_get, slice_set}
use Rattle.rt_model.specs.Parts.{OwnerPart}
use Rattle.rt_model.specs.State.{free_lock}
use Rattle.rt_model.specs.StateAfter.{update}
use Rattle.rt_locks.specs.OwnerCell.{OwnerCell}
use Rattle.rt_parts.specs.Shared.{parts_of}

pub length-parts : (cells : List OwnerCell) → length (parts_of cells) ≡ length cells
length-parts [] = refl
length-parts (cell ∷ cells) = ap suc (length-parts cells)

-- the parts of free cells
pub parts-replicate : (n tasks : ℕ) → parts_of (replicate n (record { part = free_lock; tasks = tasks })) ≡ replicate n free_lock
parts-replicate zero tasks = refl
parts-replicate (suc n) tasks = ap (λ parts. free_lock ∷ parts) (parts-replicate n tasks)

-- the part of the cell at a place
pub parts-at : (cells : List OwnerCell) (i : ℕ) (cell : OwnerCell) (d : OwnerPart) → i < length cells → unwrap_or (slice_get (parts_of cells) i) d ≡ (get_or cells i cell).part
parts-at [] i cell d lt = absurd (omega arith)
parts-at (x ∷ cells) zero cell d lt = refl
parts-at (x ∷ cells) (suc i) cell d lt = parts-at cells i cell d (omega arith)

-- a cell with another part is that part among the parts
pub parts-set : (cells : List OwnerCell) (i : ℕ) (cell left : OwnerCell) (f : OwnerPart → OwnerPart) → i < length cells → cell ≡ get_or cells i cell → left.part ≡ f cell.part
    → parts_of (slice_set cells i left) ≡ update (parts_of cells) i f
parts-set [] i cell left f lt at changed = absurd (omega arith)
parts-set (x ∷ cells) zero cell left f lt at changed = ap (λ part. part ∷ parts_of cells) (changed ∙ ap (λ (c : OwnerCell). f c.part) at)
parts-set (x ∷ cells) (suc i) cell left f lt at changed = ap (λ parts. x.part ∷ parts) (parts-set cells i cell left f (omega arith) at changed)
