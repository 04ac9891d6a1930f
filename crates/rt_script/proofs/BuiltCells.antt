-- The locks of a script that is built are those of lock lines.
use Rattle.std.proofs.Common.{◌≡◌, ℕ, zero, suc, ◌+◌, ◌-◌, ◌*◌, ◌%◌, ◌≤◌, List, [], ◌∷◌, ◌++◌, length, map, refl, sym, ap, subst, ◌∙◌, arith, append_assoc, length-append, suc-mul, zero-mul}
use Rattle.std.specs.Prelude.{replicate, flat_map, count_by, cond, take}
use Rattle.std.specs.List.{enumerate_from}
use Rattle.std.proofs.lemmas.Nat.{mod-mul-add}
use Rattle.std.proofs.Math.Seq.{take-append_seam}
use Rattle.std.proofs.lemmas.List.{length-replicate}
use Rattle.std.proofs.lemmas.List.Sums.{sum_by_push}
use Rattle.rt_base.specs.declared.kind.Kind.{Kind}
use Rattle.rt_base.specs.declared.kind.Kind.TheVariants as kinds
use Rattle.rt_base.specs.Script.{LockLine, cells_of, locks_of_lines}
use Rattle.rt_script.specs.Building.{built_lock_name, is_local, cell_cpu, built_lock, built_locks, cells_of_kind, HasWholeCells}
use Rattle.rt_script.proofs.Cells.{cell_at, lone, cells_of-next}

-- the lines of these locks, after n locks of which some are cells
abbrev lines_from : ℕ → ℕ → ℕ → List Kind → List LockLine
lines_from cpus n cells [] = []
lines_from cpus n cells (kind ∷ kinds) = built_lock n (cells % cpus) kind ∷ lines_from cpus (n + 1) (cells + cond (is_local kind) 1 0) kinds

lines_after : (cpus : ℕ) (all front back : List Kind) → all ≡ front ++ back
    → map (λ (lock : ℕ × Kind). built_lock lock.0 (cell_cpu cpus all lock.0) lock.1) (enumerate_from (length front) back) ≡ lines_from cpus (length front) (count_by is_local front) back
lines_after cpus all front [] e = refl
lines_after cpus all front (kind ∷ back) e =
    let front' : List Kind = front ++ kind ∷ [] in
    let split : all ≡ front' ++ back = e ∙ sym (append_assoc front (kind ∷ []) back) in
    let len : length front' ≡ length front + 1 = omega (arith, length-append front (kind ∷ [])) in
    let cells : count_by is_local front' ≡ count_by is_local front + cond (is_local kind) 1 0 = sum_by_push (λ (k : Kind). cond (is_local k) 1 0) front kind in
    let here : cell_cpu cpus all (length front) ≡ count_by is_local front % cpus = ap (λ (ks : List Kind). count_by is_local (take (length front) ks) % cpus) e ∙ ap (λ (ks : List Kind). count_by is_local ks % cpus) (take-append_seam front (kind ∷ back)) in
    let f : ℕ × Kind → LockLine = λ lock. built_lock lock.0 (cell_cpu cpus all lock.0) lock.1 in
    let rest : map f (enumerate_from (length front + 1) back) ≡ lines_from cpus (length front + 1) (count_by is_local front + cond (is_local kind) 1 0) back =
    subst (λ (n : ℕ). map f (enumerate_from n back) ≡ lines_from cpus n (count_by is_local front + cond (is_local kind) 1 0) back) len
    (lines_after cpus all front' back split ∙ ap (λ (c : ℕ). lines_from cpus (length front') c back) cells) in
    λ i. built_lock (length front) (here i) kind ∷ rest i

-- the cells of a local lock that are still to come
cells_from : (cpus n q : ℕ) (rest : List Kind) (m r : ℕ) → r + m ≤ cpus
    → cells_of (built_lock_name n) r ++ lines_from cpus (n + r) (q * cpus + r) (replicate m kinds.Local ++ rest) ≡ cells_of (built_lock_name n) (r + m) ++ lines_from cpus (n + (r + m)) (q * cpus + (r + m)) rest
cells_from cpus n q rest zero r le =
    let same : r ≡ r + 0 = omega arith in
    ap (λ (k : ℕ). cells_of (built_lock_name n) k ++ lines_from cpus (n + k) (q * cpus + k) rest) same
cells_from cpus n q rest (suc m) r le =
    let name : List ℕ = built_lock_name n in
    let cpu : (q * cpus + r) % cpus ≡ r = mod-mul-add q cpus r (omega arith) in
    let back : n + r - r ≡ n = omega arith in
    let line : built_lock (n + r) ((q * cpus + r) % cpus) kinds.Local ≡ cell_at name r = ap (λ (c : ℕ). built_lock (n + r) c kinds.Local) cpu ∙ ap (λ (k : ℕ). cell_at (built_lock_name k) r) back in
    let number : n + r + 1 ≡ n + (r + 1) = omega arith in
    let count : q * cpus + r + 1 ≡ q * cpus + (r + 1) = omega arith in
    let others : List LockLine = lines_from cpus (n + (r + 1)) (q * cpus + (r + 1)) (replicate m kinds.Local ++ rest) in
    let end : r + 1 + m ≡ r + suc m = omega arith in
    (λ i. cells_of name r ++ line i ∷ lines_from cpus (number i) (count i) (replicate m kinds.Local ++ rest))
    ∙ sym (append_assoc (cells_of name r) (cell_at name r ∷ []) others)
    ∙ ap (λ (cells : List LockLine). cells ++ others) (sym (cells_of-next name r))
    ∙ cells_from cpus n q rest m (r + 1) (omega arith)
    ∙ ap (λ (k : ℕ). cells_of name k ++ lines_from cpus (n + k) (q * cpus + k) rest) end

-- the names and kinds of the lock lines
abbrev named_lines : ℕ → ℕ → List Kind → List (List ℕ × Kind)
named_lines cpus n [] = []
named_lines cpus n (kind ∷ kinds) = (built_lock_name n, kind) ∷ named_lines cpus (n + length (cells_of_kind cpus kind)) kinds

abbrev Whole : ℕ → ℕ → ℕ → List Kind → Type 0
Whole cpus n q kinds = lines_from cpus n (q * cpus) (flat_map (cells_of_kind cpus) kinds) ≡ locks_of_lines cpus (named_lines cpus n kinds)

-- a lock that is no cell
lone_then : (cpus n q : ℕ) (ks : List Kind) (line : LockLine) → Whole cpus (n + 1) q ks → line ∷ lines_from cpus (n + 1) (q * cpus + 0) (flat_map (cells_of_kind cpus) ks) ≡ line ∷ locks_of_lines cpus (named_lines cpus (n + 1) ks)
lone_then cpus n q ks line rest =
    let same : q * cpus + 0 ≡ q * cpus = omega arith in
    ap (λ (ls : List LockLine). line ∷ ls) (ap (λ (c : ℕ). lines_from cpus (n + 1) c (flat_map (cells_of_kind cpus) ks)) same ∙ rest)

whole_lines : (cpus n q : ℕ) (kinds : List Kind) → Whole cpus n q kinds
whole_lines cpus n q [] = refl
whole_lines cpus n q (kinds.Mutex ∷ ks) = lone_then cpus n q ks (lone (built_lock_name n) kinds.Mutex) (whole_lines cpus (n + 1) q ks)
whole_lines cpus n q (kinds.Spin ∷ ks) = lone_then cpus n q ks (lone (built_lock_name n) kinds.Spin) (whole_lines cpus (n + 1) q ks)
whole_lines cpus n q (kinds.RwLock ∷ ks) = lone_then cpus n q ks (lone (built_lock_name n) kinds.RwLock) (whole_lines cpus (n + 1) q ks)
whole_lines cpus n q (kinds.RwSem ∷ ks) = lone_then cpus n q ks (lone (built_lock_name n) kinds.RwSem) (whole_lines cpus (n + 1) q ks)
whole_lines cpus n q (kinds.Local ∷ ks) =
    let name : List ℕ = built_lock_name n in
    let rest : List Kind = flat_map (cells_of_kind cpus) ks in
    let cells : List Kind = replicate cpus kinds.Local in
    let number : n ≡ n + 0 = omega arith in
    let count : q * cpus ≡ q * cpus + 0 = omega arith in
    let all : 0 + cpus ≡ cpus = omega arith in
    let len : cpus ≡ length cells = sym (length-replicate cpus kinds.Local) in
    let more : q * cpus + cpus ≡ suc q * cpus = sym (suc-mul q cpus) in
    (λ i. lines_from cpus (number i) (count i) (cells ++ rest))
    ∙ cells_from cpus n q rest cpus 0 (omega arith)
    ∙ ap (λ (k : ℕ). cells_of name k ++ lines_from cpus (n + k) (q * cpus + k) rest) all
    ∙ (λ i. cells_of name cpus ++ lines_from cpus (n + len i) (more i) rest)
    ∙ ap (λ (ls : List LockLine). cells_of name cpus ++ ls) (whole_lines cpus (n + length cells) (suc q) ks)

-- the locks of a plan whose cells are whole are those of lock lines
pub built_locks-lines : (cpus : ℕ) (locks : List Kind) → HasWholeCells cpus locks → (lines : List (List ℕ × Kind)) × (built_locks cpus locks ≡ locks_of_lines cpus lines)
built_locks-lines cpus locks whole =
    let none : 0 ≡ 0 * cpus = sym (zero-mul cpus) in (
      named_lines cpus 0 whole.0,
      lines_after cpus locks [] locks refl ∙ ap (lines_from cpus 0 0) whole.1 ∙ ap (λ (c : ℕ). lines_from cpus 0 c (flat_map (cells_of_kind cpus) whole.0)) none ∙ whole_lines cpus 0 0 whole.0,
    )
