-- The locks that a line makes.
use Rattle.std.proofs.Common.{◌≡◌, inl, inr, ℕ, zero, suc, ◌+◌, ◌-◌, ◌<◌, ◌≤◌, true, List, [], ◌∷◌, ◌++◌, length, get_or, Option, Some, None, refl, sym, ap, ◌∙◌, subst, arith, add-one, length-append}
use Rattle.std.specs.Prelude.{All, ◌==◌}
use Rattle.std.proofs.lemmas.Bool.{cases_lt}
use Rattle.std.proofs.lemmas.Bool.Decides.{nat_tests}
use Rattle.std.proofs.lemmas.List.{get_or_append_left, get_or-append-add, get_or_push}
use Rattle.std.proofs.lemmas.List.Elements.{All-push, All-nil}
use Rattle.rt_base.specs.declared.id.Cpu.{Cpu}
use Rattle.rt_base.specs.declared.kind.Kind.{Kind}
use Rattle.rt_base.specs.declared.kind.Kind.TheVariants as kinds
use Rattle.rt_base.specs.Name.{is_name}
use Rattle.rt_base.specs.Script.{LockLine, IsCellOf, IsLockWithin, IsLocal, is_first_cell, cells_of, locks_of, locks_of_lines}

-- the cell of processor n
abbrev pub cell_at : List ℕ → ℕ → LockLine
cell_at name n = record { name = name; kind = kinds.Local; cell = Some (record { 0 = n }) }

pub cells_of-next : (name : List ℕ) (n : ℕ) → cells_of name (n + 1) ≡ cells_of name n ++ cell_at name n ∷ []
cells_of-next name n = rw add-one refl

pub length-cells_of : (name : List ℕ) (n : ℕ) → length (cells_of name n) ≡ n
length-cells_of name zero = refl
length-cells_of name (suc n) = omega (arith, length-append (cells_of name n) (cell_at name n ∷ []), length-cells_of name n)

pub some_of : (cpus : ℕ) (name : List ℕ) (kind : Kind) → 1 ≤ cpus → 1 ≤ length (locks_of cpus name kind)
some_of cpus name kinds.Local some = omega (arith, length-cells_of name cpus)
some_of cpus name _ some = omega arith

-- ---- each has the name

cells_named : (name : List ℕ) (n : ℕ) → All (λ (line : LockLine). line.name ≡ name) (cells_of name n)
cells_named name zero = All-nil (λ (line : LockLine). line.name ≡ name)
cells_named name (suc n) = All-push (λ (line : LockLine). line.name ≡ name) (cells_of name n) (cell_at name n) (cells_named name n) refl

pub named_of : (cpus : ℕ) (name : List ℕ) (kind : Kind) → All (λ (line : LockLine). line.name ≡ name) (locks_of cpus name kind)
named_of cpus name kinds.Local = cells_named name cpus
named_of cpus name kind = All-push (λ (line : LockLine). line.name ≡ name) [] (record { name = name; kind = kind; cell = None }) (All-nil (λ (line : LockLine). line.name ≡ name)) refl

-- ---- each is within its limits

cells_fit : (cpus : ℕ) (name : List ℕ) → is_name name ≡ true → (n : ℕ) → n ≤ cpus → All (IsLockWithin cpus) (cells_of name n)
cells_fit cpus name fits zero le = All-nil (IsLockWithin cpus)
cells_fit cpus name fits (suc n) le =
    All-push (IsLockWithin cpus) (cells_of name n) (cell_at name n) (cells_fit cpus name fits n (omega arith)) (record { name = fits; cell = omega arith })

-- a lock of no cell
abbrev pub lone : List ℕ → Kind → LockLine
lone name kind = record { name = name; kind = kind; cell = None }

alone : (cpus : ℕ) (name : List ℕ) (kind : Kind) → IsLockWithin cpus (lone name kind) → All (IsLockWithin cpus) (lone name kind ∷ [])
alone cpus name kind h = All-push (IsLockWithin cpus) [] (lone name kind) (All-nil (IsLockWithin cpus)) h

pub fit_of : (cpus : ℕ) (name : List ℕ) (kind : Kind) → is_name name ≡ true → All (IsLockWithin cpus) (locks_of cpus name kind)
fit_of cpus name kinds.Local fits = cells_fit cpus name fits cpus (omega arith)
fit_of cpus name kinds.Mutex fits = alone cpus name kinds.Mutex (record { name = fits; cell = refl })
fit_of cpus name kinds.Spin fits = alone cpus name kinds.Spin (record { name = fits; cell = refl })
fit_of cpus name kinds.RwLock fits = alone cpus name kinds.RwLock (record { name = fits; cell = refl })
fit_of cpus name kinds.RwSem fits = alone cpus name kinds.RwSem (record { name = fits; cell = refl })

-- ---- which of them is the first

cell_of : (name : List ℕ) (n i : ℕ) (d : LockLine) → i < n → get_or (cells_of name n) i d ≡ cell_at name i
cell_of name zero i d lt = absurd (omega arith)
cell_of name (suc n) i d lt = elim (cases_lt i n) [
  | inl below ↦ get_or_append_left (cells_of name n) (cell_at name n ∷ []) d i (omega (arith, length-cells_of name n)) ∙ cell_of name n i d below
  | inr above ↦ let same : n ≡ i = omega arith in get_or_push (cells_of name n) (cell_at name n) d i (length-cells_of name n ∙ same) ∙ ap (cell_at name) same
]

-- of a line's locks only the first is the first
pub first_at_zero : (cpus : ℕ) (name : List ℕ) (kind : Kind) (k : ℕ) (d : LockLine) → k < length (locks_of cpus name kind) → is_first_cell (get_or (locks_of cpus name kind) k d).cell ≡ true → k ≡ 0
first_at_zero cpus name kinds.Local k d lt first =
    let at : k < cpus = omega (arith, length-cells_of name cpus) in
    let test : (k == 0) ≡ true = sym (ap (λ (l : LockLine). is_first_cell l.cell) (cell_of name cpus k d at)) ∙ first in
    grind (arith, nat_tests)
first_at_zero cpus name kinds.Mutex k d lt first = omega arith
first_at_zero cpus name kinds.Spin k d lt first = omega arith
first_at_zero cpus name kinds.RwLock k d lt first = omega arith
first_at_zero cpus name kinds.RwSem k d lt first = omega arith

-- ---- what holds at each index of a line's locks, whatever stands around them, holds at each index of whole lines

each_of_line : (P : List LockLine → ℕ → Type 0) (cpus : ℕ) → ((name : List ℕ) (i : ℕ) → i < cpus → P (cells_of name cpus) i) → ((name : List ℕ) (kind : Kind) (i : ℕ) → i < 1 → P (lone name kind ∷ []) i)
    → (name : List ℕ) (kind : Kind) (i : ℕ) → i < length (locks_of cpus name kind) → P (locks_of cpus name kind) i
each_of_line P cpus cells alone name kinds.Local i lt = cells name i (omega (arith, length-cells_of name cpus))
each_of_line P cpus cells alone name kinds.Mutex i lt = alone name kinds.Mutex i lt
each_of_line P cpus cells alone name kinds.Spin i lt = alone name kinds.Spin i lt
each_of_line P cpus cells alone name kinds.RwLock i lt = alone name kinds.RwLock i lt
each_of_line P cpus cells alone name kinds.RwSem i lt = alone name kinds.RwSem i lt

each_of_lines : (P : List LockLine → ℕ → Type 0) (cpus : ℕ) → ((name : List ℕ) (i : ℕ) → i < cpus → P (cells_of name cpus) i) → ((name : List ℕ) (kind : Kind) (i : ℕ) → i < 1 → P (lone name kind ∷ []) i)
    → ((xs ys : List LockLine) (i : ℕ) → i < length xs → P xs i → P (xs ++ ys) i) → ((xs ys : List LockLine) (i : ℕ) → P ys i → P (xs ++ ys) (length xs + i))
    → (lines : List (List ℕ × Kind)) (i : ℕ) → i < length (locks_of_lines cpus lines) → P (locks_of_lines cpus lines) i
each_of_lines P cpus cells alone before after [] i lt = absurd (omega arith)
each_of_lines P cpus cells alone before after (line ∷ lines) i lt =
    let xs : List LockLine = locks_of cpus line.0 line.1 in
    let ys : List LockLine = locks_of_lines cpus lines in
    let len : length (xs ++ ys) ≡ length xs + length ys = length-append xs ys in
    elim (cases_lt i (length xs)) [
      | inl front ↦ before xs ys i front (each_of_line P cpus cells alone line.0 line.1 i front)
      | inr back ↦
          let at : length xs + (i - length xs) ≡ i = omega arith in
          subst (P (xs ++ ys)) at (after xs ys (i - length xs) (each_of_lines P cpus cells alone before after lines (i - length xs) (omega arith)))
    ]

-- ---- a cell stands as far after the first of its name as its processor's number says

-- the number of a cell's processor
abbrev pub rank : Option Cpu → ℕ
rank None = 0
rank (Some cpu) = cpu.0

-- the first lock of the name stands so far before index i
abbrev pub HasFirst : List LockLine → ℕ → Type 0
HasFirst locks i = (d : LockLine) → (j : ℕ) × (i ≡ j + rank (get_or locks i d).cell) × ((get_or locks j d).name ≡ (get_or locks i d).name) × (is_first_cell (get_or locks j d).cell ≡ true)

first_of_cells : (name : List ℕ) (n i : ℕ) → i < n → HasFirst (cells_of name n) i
first_of_cells name n i lt d =
    let at = cell_of name n i d lt in
    let first = cell_of name n 0 d (omega arith) in
    let is : i ≡ rank (get_or (cells_of name n) i d).cell = ap (λ (l : LockLine). rank l.cell) (sym at) in
    (0, omega arith, ap (λ (l : LockLine). l.name) first ∙ sym (ap (λ (l : LockLine). l.name) at), ap (λ (l : LockLine). is_first_cell l.cell) first)

first_of_lone : (name : List ℕ) (kind : Kind) (i : ℕ) → i < 1 → HasFirst (lone name kind ∷ []) i
first_of_lone name kind zero lt d = (0, refl, refl, refl)
first_of_lone name kind (suc i) lt d = absurd (omega arith)

first_before : (xs ys : List LockLine) (i : ℕ) → i < length xs → HasFirst xs i → HasFirst (xs ++ ys) i
first_before xs ys i lt h d =
    let f = h d in
    (f.0, rw (get_or_append_left xs ys d i lt) f.1, rw (get_or_append_left xs ys d i lt, get_or_append_left xs ys d f.0 (omega (arith, f.1))) f.2, rw (get_or_append_left xs ys d f.0 (omega (arith, f.1))) f.3)

first_after : (xs ys : List LockLine) (i : ℕ) → HasFirst ys i → HasFirst (xs ++ ys) (length xs + i)
first_after xs ys i h d =
    let f = h d in
    (length xs + f.0, rw (get_or-append-add xs ys i d) (omega (arith, f.1)), rw (get_or-append-add xs ys i d, get_or-append-add xs ys f.0 d) f.2, rw (get_or-append-add xs ys f.0 d) f.3)

pub first_in_lines : (cpus : ℕ) (lines : List (List ℕ × Kind)) (i : ℕ) → i < length (locks_of_lines cpus lines) → HasFirst (locks_of_lines cpus lines) i
first_in_lines cpus = each_of_lines HasFirst cpus (λ name. first_of_cells name cpus) first_of_lone first_before first_after

-- ---- from the cell of processor 0 on, each processor's cell follows

abbrev pub HasCells : ℕ → List LockLine → ℕ → Type 0
HasCells cpus locks i = (d : LockLine) → (get_or locks i d).cell ≡ Some (record { 0 = 0 }) → (c : ℕ) → c < cpus → (i + c < length locks) × (get_or locks (i + c) d ≡ cell_at (get_or locks i d).name c)

cells_of_cells : (name : List ℕ) (n i : ℕ) → i < n → HasCells n (cells_of name n) i
cells_of_cells name n i lt d is c below =
    let at = cell_of name n i d lt in
    let zero : i ≡ 0 = ap (λ (l : LockLine). rank l.cell) (sym at) ∙ ap rank is in
    let same : i + c ≡ c = omega (arith, zero) in
    (omega (arith, length-cells_of name n), ap (λ (k : ℕ). get_or (cells_of name n) k d) same ∙ cell_of name n c d below ∙ ap (λ (l : LockLine). cell_at l.name c) (sym at))

cells_of_lone : (cpus : ℕ) (name : List ℕ) (kind : Kind) (i : ℕ) → i < 1 → HasCells cpus (lone name kind ∷ []) i
cells_of_lone cpus name kind zero lt d is c below = absurd cc
cells_of_lone cpus name kind (suc i) lt d is c below = absurd (omega arith)

cells_before : (cpus : ℕ) (xs ys : List LockLine) (i : ℕ) → i < length xs → HasCells cpus xs i → HasCells cpus (xs ++ ys) i
cells_before cpus xs ys i lt h d is c below =
    let same = get_or_append_left xs ys d i lt in
    let f = h d (ap (λ (l : LockLine). l.cell) (sym same) ∙ is) c below in
    (omega (arith, f.0, length-append xs ys), get_or_append_left xs ys d (i + c) f.0 ∙ f.1 ∙ ap (λ (l : LockLine). cell_at l.name c) (sym same))

cells_after : (cpus : ℕ) (xs ys : List LockLine) (i : ℕ) → HasCells cpus ys i → HasCells cpus (xs ++ ys) (length xs + i)
cells_after cpus xs ys i h d is c below =
    let same = get_or-append-add xs ys i d in
    let f = h d (ap (λ (l : LockLine). l.cell) (sym same) ∙ is) c below in
    let sum : length xs + i + c ≡ length xs + (i + c) = omega arith in
    (omega (arith, f.0, length-append xs ys), ap (λ (k : ℕ). get_or (xs ++ ys) k d) sum ∙ get_or-append-add xs ys (i + c) d ∙ f.1 ∙ ap (λ (l : LockLine). cell_at l.name c) (sym same))

pub cells_in_lines : (cpus : ℕ) (lines : List (List ℕ × Kind)) (i : ℕ) → i < length (locks_of_lines cpus lines) → HasCells cpus (locks_of_lines cpus lines) i
cells_in_lines cpus = each_of_lines (HasCells cpus) cpus (λ name. cells_of_cells name cpus) (cells_of_lone cpus) (cells_before cpus) (cells_after cpus)

-- a local lock's first cell is that of processor 0
cell_is_first : (cpus : ℕ) (cell : Option Cpu) → IsCellOf cpus kinds.Local cell → is_first_cell cell ≡ true → cell ≡ Some (record { 0 = 0 })
cell_is_first cpus None is first = absurd is
cell_is_first cpus (Some cpu) is first =
    let zero : cpu.0 ≡ 0 = grind (arith, nat_tests) in
    ap (λ (n : ℕ). Some (record { 0 = n })) zero

pub first_cell : (cpus : ℕ) (lock : LockLine) → IsLockWithin cpus lock → is_first_cell lock.cell ≡ true → lock.kind ≡ kinds.Local → IsLocal lock
first_cell cpus lock h first local = (local, cell_is_first cpus lock.cell (subst (λ (k : Kind). IsCellOf cpus k lock.cell) local h.cell) first)
