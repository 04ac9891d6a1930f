-- Tests of the parts of a script that is to be built.
use Rattle.std.proofs.Common.{◌≡◌, Bool, true, false, ℕ, zero, suc, ◌-◌, ◌%◌, ◌<◌, ◌≤◌, List, [], ◌∷◌, ◌++◌, length, get_or, take, drop, Option, Some, None, refl, sym, ap, subst, ◌∙◌, arith}
use Rattle.std.specs.Prelude.{◌↔◌, IsTrue, nat_eq, nat_lt, replicate, flat_map, option_and_then, count_by}
use Rattle.std.proofs.Math.Seq.{drop-cons}
use Rattle.std.proofs.lemmas.Bool.{eq-eqb, eqb-true}
use Rattle.std.proofs.lemmas.Bool.Decides.{nat_tests}
use Rattle.rt_base.specs.declared.id.Cpu.{Cpu}
use Rattle.rt_base.specs.declared.kind.Kind.{Kind}
use Rattle.rt_base.specs.declared.kind.Kind.TheVariants as kinds
use Rattle.rt_base.specs.Script.{LockLine, lock_line, IsLockOf, HasReaders, IsReaderLock, IsLocal}
use Rattle.rt_script.specs.Buildable.{cells_missing}
use Rattle.rt_script.specs.Building.{Plan, cells_of_kind, HasWholeCells, is_local, cell_cpu, built_lock, built_locks, built}
use Rattle.rt_script.proofs.BuiltLines.{length-built_tasks, length-built_locks, built_lock_at}
use Rattle.rt_script.proofs.ScriptParts.{no_lock, lock_line_at, IsLockOf-from, IsLockOf-to}

-- ---- whole cells

-- how many cells are missing after these locks, where so many were before
abbrev pub missing_after : ℕ → ℕ → List Kind → Option ℕ
missing_after cpus n [] = Some n
missing_after cpus n (kind ∷ ks) = option_and_then (λ m. missing_after cpus m ks) (cells_missing cpus n kind)

-- locks that begin with so many cells
abbrev Continues : ℕ → ℕ → List Kind → Type 0
Continues cpus n locks = (lines : List Kind) × (locks ≡ replicate n kinds.Local ++ flat_map (cells_of_kind cpus) lines)

pub some_missing : (n : ℕ) → Some n ≡ Some 0 → n ≡ 0
some_missing n e = cc

nothing_whole : (cpus n : ℕ) → n ≡ 0 → Continues cpus n []
nothing_whole cpus n none = ([], ap (λ (k : ℕ). replicate k kinds.Local ++ []) (sym none))

first_cell_whole : (cpus k : ℕ) (ks : List Kind) → cpus ≡ suc k → Continues cpus k ks → Continues cpus 0 (kinds.Local ∷ ks)
first_cell_whole cpus k ks is h =
    let rest : List Kind = flat_map (cells_of_kind cpus) h.0 in
    (kinds.Local ∷ h.0, ap (λ (ls : List Kind). kinds.Local ∷ ls) h.1 ∙ ap (λ (n : ℕ). replicate n kinds.Local ++ rest) (sym is))

lone_whole : (cpus : ℕ) (kind : Kind) (ks : List Kind) → cells_of_kind cpus kind ≡ kind ∷ [] → Continues cpus 0 ks → Continues cpus 0 (kind ∷ ks)
lone_whole cpus kind ks is h = (kind ∷ h.0, ap (λ (ls : List Kind). kind ∷ ls) h.1 ∙ ap (λ (ls : List Kind). ls ++ flat_map (cells_of_kind cpus) h.0) (sym is))

whole_from : (cpus n : ℕ) (locks : List Kind) → 1 ≤ cpus → missing_after cpus n locks ≡ Some 0 → Continues cpus n locks
whole_from cpus n [] some e = nothing_whole cpus n (some_missing n e)
whole_from cpus zero (kinds.Local ∷ ks) some e = first_cell_whole cpus (cpus - 1) ks (omega arith) (whole_from cpus (cpus - 1) ks some e)
whole_from cpus (suc n) (kinds.Local ∷ ks) some e =
    let h = whole_from cpus n ks some e in
    (h.0, ap (λ (ls : List Kind). kinds.Local ∷ ls) h.1)
whole_from cpus zero (kinds.Mutex ∷ ks) some e = lone_whole cpus kinds.Mutex ks refl (whole_from cpus 0 ks some e)
whole_from cpus zero (kinds.Spin ∷ ks) some e = lone_whole cpus kinds.Spin ks refl (whole_from cpus 0 ks some e)
whole_from cpus zero (kinds.RwLock ∷ ks) some e = lone_whole cpus kinds.RwLock ks refl (whole_from cpus 0 ks some e)
whole_from cpus zero (kinds.RwSem ∷ ks) some e = lone_whole cpus kinds.RwSem ks refl (whole_from cpus 0 ks some e)
whole_from cpus (suc n) (kinds.Mutex ∷ ks) some e = absurd cc
whole_from cpus (suc n) (kinds.Spin ∷ ks) some e = absurd cc
whole_from cpus (suc n) (kinds.RwLock ∷ ks) some e = absurd cc
whole_from cpus (suc n) (kinds.RwSem ∷ ks) some e = absurd cc

cells_taken : (cpus n : ℕ) (rest : List Kind) → missing_after cpus 0 rest ≡ Some 0 → missing_after cpus n (replicate n kinds.Local ++ rest) ≡ Some 0
cells_taken cpus zero rest e = e
cells_taken cpus (suc n) rest e = cells_taken cpus n rest e

none_missing_of : (k : ℕ) (lines : List Kind) → missing_after (suc k) 0 (flat_map (cells_of_kind (suc k)) lines) ≡ Some 0
none_missing_of k [] = refl
none_missing_of k (kinds.Local ∷ ks) =
    let rest : List Kind = flat_map (cells_of_kind (suc k)) ks in
    let left : suc k - 1 ≡ k = omega arith in
    ap (λ (n : ℕ). missing_after (suc k) n (replicate k kinds.Local ++ rest)) left ∙ cells_taken (suc k) k rest (none_missing_of k ks)
none_missing_of k (kinds.Mutex ∷ ks) = none_missing_of k ks
none_missing_of k (kinds.Spin ∷ ks) = none_missing_of k ks
none_missing_of k (kinds.RwLock ∷ ks) = none_missing_of k ks
none_missing_of k (kinds.RwSem ∷ ks) = none_missing_of k ks

positive : (cpus : ℕ) (lines : List Kind) → 1 ≤ cpus → missing_after cpus 0 (flat_map (cells_of_kind cpus) lines) ≡ Some 0
positive zero lines some = absurd (omega arith)
positive (suc k) lines some = none_missing_of k lines

pub missing_stop : (cpus n : ℕ) (locks : List Kind) (i : ℕ) (d : Kind) → i < length locks → cells_missing cpus n (get_or locks i d) ≡ None → missing_after cpus n (drop i locks) ≡ None
missing_stop cpus n locks i d lt e =
    ap (missing_after cpus n) (drop-cons locks i d lt) ∙ ap (λ (o : Option ℕ). option_and_then (λ m. missing_after cpus m (drop (suc i) locks)) o) e

pub whole-none_missing : (cpus : ℕ) (locks : List Kind) → 1 ≤ cpus → (missing_after cpus 0 locks ≡ Some 0) ↔ HasWholeCells cpus locks
whole-none_missing cpus locks some = ((λ e. whole_from cpus 0 locks some e), (λ h. ap (missing_after cpus 0) h.1 ∙ positive cpus h.0 some))

-- ---- a lock that is named

built_lock-kind : (n cpu : ℕ) (kind : Kind) → (built_lock n cpu kind).kind ≡ kind
built_lock-kind n cpu kinds.Local = refl
built_lock-kind n cpu kinds.Mutex = refl
built_lock-kind n cpu kinds.Spin = refl
built_lock-kind n cpu kinds.RwLock = refl
built_lock-kind n cpu kinds.RwSem = refl

-- the line of the lock of a number
line_is : (plan : Plan) (n : ℕ) (d : Kind) → n < length plan.locks → lock_line (built plan) (record { 0 = n }) ≡ built_lock n (cell_cpu plan.cpus plan.locks n) (get_or plan.locks n d)
line_is plan n d lt = lock_line_at (built plan) (record { 0 = n }) ∙ built_lock_at plan.cpus plan.locks n no_lock d lt

pub is_lock_of : (plan : Plan) (n : ℕ) (d : Kind) (fits : LockLine → Type 0) → n < length plan.locks
    → fits (built_lock n (cell_cpu plan.cpus plan.locks n) (get_or plan.locks n d)) ↔ IsLockOf (built plan) fits (record { 0 = n })
is_lock_of plan n d fits lt = (
  (λ h. IsLockOf-from (built_locks plan.cpus plan.locks) n fits (omega (arith, length-built_locks plan.cpus plan.locks)) (subst fits (sym (line_is plan n d lt)) h)),
  (λ h. subst fits (line_is plan n d lt) (IsLockOf-to (built_locks plan.cpus plan.locks) n fits h).1),
)

pub no_lock_of : (plan : Plan) (n : ℕ) (fits : LockLine → Type 0) → length plan.locks ≤ n → IsLockOf (built plan) fits (record { 0 = n }) → ⊥
no_lock_of plan n fits past h =
    let within = (IsLockOf-to (built_locks plan.cpus plan.locks) n fits h).0 in
    omega (arith, within, length-built_locks plan.cpus plan.locks)

pub kind_of : (plan : Plan) (n : ℕ) (d kind : Kind) → n < length plan.locks → (get_or plan.locks n d ≡ kind) ↔ IsLockOf (built plan) (λ (line : LockLine). line.kind ≡ kind) (record { 0 = n })
kind_of plan n d kind lt =
    let both = is_lock_of plan n d (λ (line : LockLine). line.kind ≡ kind) lt in
    let is = built_lock-kind n (cell_cpu plan.cpus plan.locks n) (get_or plan.locks n d) in
    ((λ e. both.0 (is ∙ e)), (λ h. sym is ∙ both.1 h))

pub readers_of : (plan : Plan) (n : ℕ) (d : Kind) → n < length plan.locks → HasReaders (get_or plan.locks n d) ↔ IsLockOf (built plan) IsReaderLock (record { 0 = n })
readers_of plan n d lt =
    let both = is_lock_of plan n d IsReaderLock lt in
    let is = built_lock-kind n (cell_cpu plan.cpus plan.locks n) (get_or plan.locks n d) in
    ((λ h. both.0 (subst HasReaders (sym is) h)), (λ h. subst HasReaders is (both.1 h)))

-- the number of the processor
abbrev cpu_in : Option Cpu → ℕ
cpu_in None = 0
cpu_in (Some cpu) = cpu.0

first_of_kind : (n cpu : ℕ) (kind : Kind) → ((kind ≡ kinds.Local) × (cpu ≡ 0)) ↔ IsLocal (built_lock n cpu kind)
first_of_kind n cpu kinds.Local = ((λ h. (refl, ap (λ (k : ℕ). Some (record { 0 = k })) h.1)), (λ h. (refl, ap cpu_in h.1)))
first_of_kind n cpu kinds.Mutex = ((λ h. absurd cc), (λ h. absurd cc))
first_of_kind n cpu kinds.Spin = ((λ h. absurd cc), (λ h. absurd cc))
first_of_kind n cpu kinds.RwLock = ((λ h. absurd cc), (λ h. absurd cc))
first_of_kind n cpu kinds.RwSem = ((λ h. absurd cc), (λ h. absurd cc))

pub first_cell_of : (plan : Plan) (n : ℕ) (d : Kind) → n < length plan.locks → ((get_or plan.locks n d ≡ kinds.Local) × (count_by is_local (take n plan.locks) % plan.cpus ≡ 0)) ↔ IsLockOf (built plan) IsLocal (record { 0 = n })
first_cell_of plan n d lt =
    let both = is_lock_of plan n d IsLocal lt in
    let first = first_of_kind n (cell_cpu plan.cpus plan.locks n) (get_or plan.locks n d) in
    ((λ h. both.0 (first.0 h)), (λ h. first.1 (both.1 h)))

-- ---- tests as code makes them

pub never : {A : Type 0} → false ≡ true → A
never e = absurd cc

past : (n len : ℕ) → len ≤ n → nat_lt n len ≡ true → ⊥
past n len le e = grind (arith, nat_tests)

-- there is no lock of that number
pub past_locks : (plan : Plan) (n : ℕ) (fits : LockLine → Type 0) → length plan.locks ≤ n → IsTrue (nat_lt n (length plan.locks)) ↔ IsLockOf (built plan) fits (record { 0 = n })
past_locks plan n fits le = ((λ e. absurd (past n (length plan.locks) le e)), (λ h. absurd (no_lock_of plan n fits le h)))

-- a test tells what another does, if both facts are the same
pub tells : {A B : Type 0} (b : Bool) → IsTrue b ↔ A → A ↔ B → IsTrue b ↔ B
tells b first same = ((λ e. same.0 (first.0 e)), (λ h. first.1 (same.1 h)))

-- a task of the plan is one of what is built
pub task_there : (plan : Plan) (n : ℕ) → (n < length plan.tasks) ↔ (n < length (built plan).tasks)
task_there plan n = ((λ h. omega (arith, length-built_tasks plan.tasks)), (λ h. omega (arith, length-built_tasks plan.tasks)))

no_cells : (n : ℕ) → (nat_eq n 0 ≡ true) ↔ (n ≡ 0)
no_cells n = ((λ e. eqb-true n 0 e), (λ e. eq-eqb n 0 e))

-- the test of the cells before a local lock
pub first_cell_tells : (plan : Plan) (n : ℕ) (d : Kind) (cells : ℕ) → n < length plan.locks → get_or plan.locks n d ≡ kinds.Local → cells ≡ count_by is_local (take n plan.locks)
    → IsTrue (nat_eq (cells % plan.cpus) 0) ↔ IsLockOf (built plan) IsLocal (record { 0 = n })
first_cell_tells plan n d cells lt local is =
    let same : cells % plan.cpus ≡ count_by is_local (take n plan.locks) % plan.cpus = ap (λ (c : ℕ). c % plan.cpus) is in
    let both = first_cell_of plan n d lt in
    let zero = no_cells (cells % plan.cpus) in
    ((λ e. both.0 (local, sym same ∙ zero.0 e)), (λ h. zero.1 (same ∙ (both.1 h).1)))

pub not_local : (plan : Plan) (n : ℕ) (d : Kind) (b : Bool) → n < length plan.locks → IsTrue b ↔ (get_or plan.locks n d ≡ kinds.Local) → b ≡ false → IsTrue b ↔ IsLockOf (built plan) IsLocal (record { 0 = n })
not_local plan n d b lt tells other = ((λ e. let no : false ≡ true = sym other ∙ e in never no), (λ h. tells.1 ((first_cell_of plan n d lt).1 h).0))
