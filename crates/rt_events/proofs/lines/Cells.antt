-- A lock has no cells, or is a cell that stands with the others of its line.
use Rattle.std.proofs.Common.{◌≡◌, ◌⊎◌, inl, inr, ℕ, zero, suc, ◌+◌, ◌-◌, ◌<◌, List, [], ◌∷◌, ◌++◌, length, get_or, None, refl, sym, ap, ◌∙◌, subst, arith, length-append}
use Rattle.std.proofs.lemmas.Bool.{cases_lt}
use Rattle.std.proofs.lemmas.List.{get_or_append_left, get_or-append-add, get_or_push}
use Rattle.rt_base.specs.declared.id.LockId.{LockId}
use Rattle.rt_base.specs.declared.kind.Kind.{Kind}
use Rattle.rt_base.specs.declared.kind.Kind.TheVariants as kinds
use Rattle.rt_base.specs.Script.{Script, LockLine, lock_line, IsScript, cells_of, locks_of, locks_of_lines}
use Rattle.rt_events.specs.WellFormed.{IsLockIn}
use Rattle.rt_script.proofs.Cells.{cell_at, lone, length-cells_of}
use Rattle.rt_script.proofs.ScriptParts.{no_lock, lock_line_at}

-- the cells of one name stand side by side, and this is one of them
record IsAmong (cpus : ℕ) (locks : List LockLine) (i : ℕ) : Type 0 where
  name : List ℕ
  first : ℕ
  cpu : ℕ
  at : i ≡ first + cpu
  few : cpu < cpus
  cells : (d : LockLine) (c : ℕ) → c < cpus → (first + c < length locks) × (get_or locks (first + c) d ≡ cell_at name c)

abbrev Stands : ℕ → List LockLine → ℕ → Type 0
Stands cpus locks i = ((d : LockLine) → (get_or locks i d).cell ≡ None) ⊎ IsAmong cpus locks i

cell_of : (name : List ℕ) (n i : ℕ) (d : LockLine) → i < n → get_or (cells_of name n) i d ≡ cell_at name i
cell_of name zero i d lt = absurd (omega arith)
cell_of name (suc n) i d lt = elim (cases_lt i n) [
  | inl below ↦ get_or_append_left (cells_of name n) (cell_at name n ∷ []) d i (omega (arith, length-cells_of name n)) ∙ cell_of name n i d below
  | inr above ↦ let same : n ≡ i = omega arith in get_or_push (cells_of name n) (cell_at name n) d i (length-cells_of name n ∙ same) ∙ ap (cell_at name) same
]

in_lone : (cpus : ℕ) (name : List ℕ) (kind : Kind) (i : ℕ) → i < 1 → Stands cpus (lone name kind ∷ []) i
in_lone cpus name kind zero lt = inl (λ d. refl)
in_lone cpus name kind (suc i) lt = absurd (omega arith)

in_line : (cpus : ℕ) (name : List ℕ) (kind : Kind) (i : ℕ) → i < length (locks_of cpus name kind) → Stands cpus (locks_of cpus name kind) i
in_line cpus name kinds.Local i lt =
    inr (record {
      name = name;
      first = 0;
      cpu = i;
      at = omega arith;
      few = omega (arith, length-cells_of name cpus);
      cells = λ d c few.
          let here : 0 + c ≡ c = omega arith in
          (omega (arith, length-cells_of name cpus), ap (λ (k : ℕ). get_or (cells_of name cpus) k d) here ∙ cell_of name cpus c d few);
    })
in_line cpus name kinds.Mutex i lt = in_lone cpus name kinds.Mutex i lt
in_line cpus name kinds.Spin i lt = in_lone cpus name kinds.Spin i lt
in_line cpus name kinds.RwLock i lt = in_lone cpus name kinds.RwLock i lt
in_line cpus name kinds.RwSem i lt = in_lone cpus name kinds.RwSem i lt

in_front : (cpus : ℕ) (xs ys : List LockLine) (i : ℕ) → i < length xs → Stands cpus xs i → Stands cpus (xs ++ ys) i
in_front cpus xs ys i lt h = elim h [
  | inl none ↦ inl (λ d. rw (get_or_append_left xs ys d i lt) (none d))
  | inr a ↦
      inr (record {
        name = a.name;
        first = a.first;
        cpu = a.cpu;
        at = a.at;
        few = a.few;
        cells = λ d c few.
            let here = a.cells d c few in
            (omega (arith, here.0, length-append xs ys), get_or_append_left xs ys d (a.first + c) here.0 ∙ here.1);
      })
]

in_back : (cpus : ℕ) (xs ys : List LockLine) (i : ℕ) → Stands cpus ys i → Stands cpus (xs ++ ys) (length xs + i)
in_back cpus xs ys i h = elim h [
  | inl none ↦ inl (λ d. rw (get_or-append-add xs ys i d) (none d))
  | inr a ↦
      inr (record {
        name = a.name;
        first = length xs + a.first;
        cpu = a.cpu;
        at = omega (arith, a.at);
        few = a.few;
        cells = λ d c few.
            let here = a.cells d c few in
            let there : length xs + a.first + c ≡ length xs + (a.first + c) = omega arith in
            (omega (arith, here.0, length-append xs ys), ap (λ (k : ℕ). get_or (xs ++ ys) k d) there ∙ get_or-append-add xs ys (a.first + c) d ∙ here.1);
      })
]

in_lines : (cpus : ℕ) (lines : List (List ℕ × Kind)) (i : ℕ) → i < length (locks_of_lines cpus lines) → Stands cpus (locks_of_lines cpus lines) i
in_lines cpus [] i lt = absurd (omega arith)
in_lines cpus (line ∷ lines) i lt =
    let xs : List LockLine = locks_of cpus line.0 line.1 in
    let ys : List LockLine = locks_of_lines cpus lines in
    let len : length (xs ++ ys) ≡ length xs + length ys = length-append xs ys in
    elim (cases_lt i (length xs)) [
      | inl front ↦ in_front cpus xs ys i front (in_line cpus line.0 line.1 i front)
      | inr back ↦ let at : length xs + (i - length xs) ≡ i = omega arith in subst (Stands cpus (xs ++ ys)) at (in_back cpus xs ys (i - length xs) (in_lines cpus lines (i - length xs) (omega arith)))
    ]

-- ---- the same of a script

-- a cell of processor cpu, with the first of its name and the others
pub record IsCell (script : Script) (l : LockId) : Type 0 where
  pub name : List ℕ
  pub first : ℕ
  pub cpu : ℕ
  pub at : l.0 ≡ first + cpu
  pub few : cpu < script.cpus
  pub cells : (c : ℕ) → c < script.cpus → IsLockIn script (record { 0 = first + c }) × (lock_line script (record { 0 = first + c }) ≡ cell_at name c)

of_script : (script : Script) (l : LockId) → Stands script.cpus script.locks l.0 → ((lock_line script l).cell ≡ None) ⊎ IsCell script l
of_script script l h = elim h [
  | inl none ↦ inl (ap (λ (line : LockLine). line.cell) (lock_line_at script l) ∙ none no_lock)
  | inr a ↦
      inr (record {
        name = a.name;
        first = a.first;
        cpu = a.cpu;
        at = a.at;
        few = a.few;
        cells = λ c few.
            let here = a.cells no_lock c few in
            (here.0, lock_line_at script (record { 0 = a.first + c }) ∙ here.1);
      })
]

pub stands : (script : Script) → IsScript script → (l : LockId) → IsLockIn script l → ((lock_line script l).cell ≡ None) ⊎ IsCell script l
stands script is l within =
    of_script script l
    (subst (λ (locks : List LockLine). Stands script.cpus locks l.0) (sym is.whole.1)
    (in_lines script.cpus is.whole.0 l.0 (subst (λ (locks : List LockLine). l.0 < length locks) is.whole.1 within)))

-- a cell's own line
pub cell_line : (script : Script) (l : LockId) (a : IsCell script l) → lock_line script l ≡ cell_at a.name a.cpu
cell_line script l a = ap (λ (i : ℕ). lock_line script (record { 0 = i })) a.at ∙ (a.cells a.cpu a.few).1
