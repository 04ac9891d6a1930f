-- The locks that lines make, and the lines that such locks are written as.
use Rattle.std.proofs.Common.{◌≡◌, ℕ, zero, suc, ◌≤◌, Bool, true, List, [], ◌∷◌, ◌++◌, map, filter, flat_map, refl, ap, ◌∙◌, arith}
use Rattle.std.specs.Prelude.{codes}
use Rattle.std.proofs.lemmas.List.Elements.{filter-append}
use Rattle.std.proofs.lemmas.Bool.{ne_eqb}
use Rattle.rt_base.specs.Text.{spaced}
use Rattle.rt_base.specs.declared.kind.Kind.{Kind}
use Rattle.rt_base.specs.declared.kind.Kind.TheVariants as kinds
use Rattle.rt_base.specs.Script.{LockLine, is_first_cell, cells_of, locks_of, locks_of_lines}
use Rattle.rt_script.proofs.Cells.{cell_at, lone}
use Rattle.rt_script.specs.Canonical.{lock_kind_word, lock_line_text}

-- the test for locks that have a line of their own
abbrev pub has_line : LockLine → Bool
has_line l = is_first_cell l.cell

-- the locks of a line: the first, which is written, and those after it, which aren't
pub record Starts (locks : List LockLine) (name : List ℕ) (kind : Kind) : Type 0 where
  pub first : LockLine
  pub others : List LockLine
  pub whole : locks ≡ first ∷ others
  pub lined : filter has_line locks ≡ first ∷ []
  pub cell : is_first_cell first.cell ≡ true
  pub name_is : first.name ≡ name
  pub kind_is : first.kind ≡ kind

cells_start : (name : List ℕ) (n : ℕ) → (others : List LockLine) × (cells_of name (suc n) ≡ cell_at name 0 ∷ others)
cells_start name zero = ([], refl)
cells_start name (suc n) =
    let before = cells_start name n in
    (before.0 ++ cell_at name (suc n) ∷ [], ap (λ (cells : List LockLine). cells ++ cell_at name (suc n) ∷ []) before.1)

behind_first : (name : List ℕ) (n : ℕ) → filter has_line (cell_at name (suc n) ∷ []) ≡ []
behind_first name n = rw (ne_eqb (suc n) 0 (λ e. omega arith)) refl

cells_lined : (name : List ℕ) (n : ℕ) → filter has_line (cells_of name (suc n)) ≡ cell_at name 0 ∷ []
cells_lined name zero = refl
cells_lined name (suc n) = filter-append has_line (cells_of name (suc n)) (cell_at name (suc n) ∷ []) ∙ rw (cells_lined name n, behind_first name n) refl

cells : (n : ℕ) (name : List ℕ) → 1 ≤ n → Starts (cells_of name n) name kinds.Local
cells zero name some = absurd (omega arith)
cells (suc n) name some =
    let start = cells_start name n in
    record { first = cell_at name 0; others = start.0; whole = start.1; lined = cells_lined name n; cell = refl; name_is = refl; kind_is = refl }

alone : (name : List ℕ) (kind : Kind) → Starts (lone name kind ∷ []) name kind
alone name kind = record { first = lone name kind; others = []; whole = refl; lined = refl; cell = refl; name_is = refl; kind_is = refl }

pub starts : (cpus : ℕ) (name : List ℕ) (kind : Kind) → 1 ≤ cpus → Starts (locks_of cpus name kind) name kind
starts cpus name kinds.Local some = cells cpus name some
starts cpus name kinds.Mutex some = alone name kinds.Mutex
starts cpus name kinds.Spin some = alone name kinds.Spin
starts cpus name kinds.RwLock some = alone name kinds.RwLock
starts cpus name kinds.RwSem some = alone name kinds.RwSem

-- ---- the lines of such locks

-- a lock line of a name and a kind
abbrev pub line_text : List ℕ × Kind → List ℕ
line_text line = codes "lock" ++ spaced (line.0 ∷ lock_kind_word line.1 ∷ [])

pub written_locks : (cpus : ℕ) (lines : List (List ℕ × Kind)) → 1 ≤ cpus → map lock_line_text (filter has_line (locks_of_lines cpus lines)) ≡ flat_map (λ line. line_text line ∷ []) lines
written_locks cpus [] some = refl
written_locks cpus (line ∷ lines) some =
    let s = starts cpus line.0 line.1 some in
    let here : filter has_line (locks_of_lines cpus (line ∷ lines)) ≡ filter has_line (locks_of cpus line.0 line.1) ++ filter has_line (locks_of_lines cpus lines) = filter-append has_line (locks_of cpus line.0 line.1) (locks_of_lines cpus lines) in
    let text : lock_line_text s.first ≡ line_text line = rw (s.name_is, s.kind_is) refl in
    ap (map lock_line_text) (here ∙ ap (λ (xs : List LockLine). xs ++ filter has_line (locks_of_lines cpus lines)) s.lined) ∙ ap (λ (t : List ℕ). t ∷ map lock_line_text (filter has_line (locks_of_lines cpus lines))) text
    ∙ ap (λ (ts : List (List ℕ)). line_text line ∷ ts) (written_locks cpus lines some)
