-- The cells of a local lock stand side by side.
use Rattle.std.proofs.Common.{◌≡◌, ◌⊎◌, inl, inr, ℕ, zero, suc, ◌+◌, ◌<◌, ◌≤◌, List, [], ◌∷◌, ◌++◌, length, get_or, refl, sym, ap, ◌∙◌, subst, arith, Some, None}
use Rattle.std.specs.Prelude.{slice_get}
use Rattle.std.proofs.lemmas.Option.{slice_get_cases, slice_get_within}
use Rattle.rt_base.specs.Script.{Script, LockLine, cells_of, locks_of, locks_of_lines, IsLockOf, IsLocal, IsScript}
use Rattle.rt_base.specs.declared.id.Cpu.{Cpu}
use Rattle.rt_base.specs.declared.id.LockId.{LockId}
use Rattle.rt_base.specs.declared.kind.Kind.{Kind}
use Rattle.rt_base.specs.declared.kind.Kind.TheVariants as kinds
use Rattle.rt_model.specs.Parts.{cell}

abbrev line_of : List ℕ → ℕ → LockLine
line_of name n = record { name = name; kind = kinds.Local; cell = Some (record { 0 = n }) }

-- ---- an element of a list and of one that goes on

get-front : {X : Type 0} (xs ys : List X) (i : ℕ) (x : X) → slice_get xs i ≡ Some x → slice_get (xs ++ ys) i ≡ Some x
get-front [] ys i x is = cc
get-front (y ∷ xs) ys zero x is = is
get-front (y ∷ xs) ys (suc i) x is = get-front xs ys i x is

get-back : {X : Type 0} (xs ys : List X) (i : ℕ) → slice_get (xs ++ ys) (i + length xs) ≡ slice_get ys i
get-back {X} [] ys i = let none : i + length {A = X} [] ≡ i = omega arith in ap (slice_get ys) none
get-back (x ∷ xs) ys i = let next : i + length (x ∷ xs) ≡ suc (i + length xs) = omega arith in ap (slice_get (x ∷ xs ++ ys)) next ∙ get-back xs ys i

-- an element is in the one or in the other
get-either : {X : Type 0} (xs ys : List X) (i : ℕ) (x : X) → slice_get (xs ++ ys) i ≡ Some x
    → (slice_get xs i ≡ Some x) ⊎ ((j : ℕ) × (j + length xs ≡ i) × (slice_get ys j ≡ Some x))
get-either {X} [] ys i x is = let none : i + length {A = X} [] ≡ i = omega arith in inr (i, none, is)
get-either (y ∷ xs) ys zero x is = inl is
get-either (y ∷ xs) ys (suc i) x is = elim (get-either xs ys i x is) [ inl here ↦ inl here | inr there ↦ let at = there.1 in let next : there.0 + length (y ∷ xs) ≡ suc i = omega arith in inr (there.0, next, there.2) ]

-- a list of one has no other
only : {X : Type 0} (x y : X) (i : ℕ) → slice_get (x ∷ []) i ≡ Some y → x ≡ y
only x y zero is = cc
only x y (suc i) is = cc

-- ---- cells

same_cpu : (a b : Cpu) → Some a ≡ Some b → a.0 ≡ b.0
same_cpu a b is = let same : a ≡ b = cc in ap (λ (cpu : Cpu). cpu.0) same

get-long : {X : Type 0} (xs : List X) (x : X) → length (xs ++ x ∷ []) ≡ suc (length xs)
get-long [] x = refl
get-long (y ∷ xs) x = ap suc (get-long xs x)

length-cells : (name : List ℕ) (n : ℕ) → length (cells_of name n) ≡ n
length-cells name zero = refl
length-cells name (suc n) = get-long (cells_of name n) (line_of name n) ∙ ap suc (length-cells name n)

below : (i n : ℕ) → i < suc n → (i < n) ⊎ (i ≡ n)
below zero zero lt = inr refl
below zero (suc n) lt = inl (omega arith)
below (suc i) zero lt = absurd (omega (arith, lt))
below (suc i) (suc n) lt = elim (below i n (omega (arith, lt))) [ inl less ↦ inl (omega (arith, less)) | inr same ↦ inr (ap suc same) ]

-- cell i is that of processor i
cell-at : (name : List ℕ) (n i : ℕ) → i < n → slice_get (cells_of name n) i ≡ Some (line_of name i)
cell-at name zero i lt = absurd (omega (arith, lt))
cell-at name (suc n) i lt = by_last (below i n lt) (cell-at name n i)
  where
    by_last : (i < n) ⊎ (i ≡ n) → (i < n → slice_get (cells_of name n) i ≡ Some (line_of name i)) → slice_get (cells_of name (suc n)) i ≡ Some (line_of name i)
    by_last (inl less) earlier = get-front (cells_of name n) _ i (line_of name i) (earlier less)
    by_last (inr same) earlier =
        let at : slice_get (cells_of name n ++ line_of name n ∷ []) (0 + length (cells_of name n)) ≡ Some (line_of name n) = get-back (cells_of name n) (line_of name n ∷ []) 0 in
        let place : 0 + length (cells_of name n) ≡ i = let long = length-cells name n in omega arith in
        subst (λ (k : ℕ). slice_get (cells_of name n ++ line_of name n ∷ []) k ≡ Some (line_of name i)) place (at ∙ ap (λ (k : ℕ). Some (line_of name k)) (sym same))

-- ---- the locks of a script

-- the line of the cell of a processor is there, and says so
pub record IsCellAt (locks : List LockLine) (n : ℕ) (cpu : Cpu) : Type 0 where
  pub line : LockLine
  pub at : slice_get locks n ≡ Some line
  pub kind : line.kind ≡ kinds.Local
  pub cell : line.cell ≡ Some cpu
  pub within : n < length locks

cell-in : (locks : List LockLine) (n : ℕ) (cpu : Cpu) (name : List ℕ) → slice_get locks n ≡ Some (line_of name cpu.0) → IsCellAt locks n cpu
cell-in locks n cpu name at = record { line = line_of name cpu.0; at = at; kind = refl; cell = refl; within = slice_get_within locks n (line_of name cpu.0) at }

-- beside the first cell of a local lock stand the others
beside : (cpus : ℕ) (lines : List (List ℕ × Kind)) (i : ℕ) (line : LockLine) (cpu : Cpu) → slice_get (locks_of_lines cpus lines) i ≡ Some line → IsLocal line → cpu.0 < cpus
    → IsCellAt (locks_of_lines cpus lines) (i + cpu.0) cpu
beside cpus [] i line cpu at is lt = cc
beside cpus ((name, kind) ∷ lines) i line cpu at is lt = by_part (get-either (locks_of cpus name kind) (locks_of_lines cpus lines) i line at) (λ j there. beside cpus lines j line cpu there is lt)
  where
    rest : List LockLine
    rest = locks_of_lines cpus lines

    -- in the locks of this line: a local lock
    first : (k : Kind) → slice_get (locks_of cpus name k) i ≡ Some line → IsCellAt (locks_of cpus name k ++ rest) (i + cpu.0) cpu
    first kinds.Local here = own_cell (slice_get_cases (cells_of name cpus) i).1
      where
        own_cell : ((x : LockLine) × (i < length (cells_of name cpus)) × (slice_get (cells_of name cpus) i ≡ Some x) × (get_or (cells_of name cpus) i x ≡ x)) ⊎ ((length (cells_of name cpus) ≤ i) × (slice_get (cells_of name cpus) i ≡ None))
            → IsCellAt (cells_of name cpus ++ rest) (i + cpu.0) cpu
        own_cell (inr past) = cc
        own_cell (inl there) =
            let less : i < cpus = let long = length-cells name cpus in let lt = there.1 in omega arith in
            let same : line_of name i ≡ line = let own = cell-at name cpus i less in cc in
            let zero_cell : i ≡ 0 = same_cpu (record { 0 = i }) (record { 0 = 0 }) (ap (λ (x : LockLine). x.cell) same ∙ is.1) in
            let number : cpu.0 ≡ i + cpu.0 = omega (arith, zero_cell) in
            subst (λ (n : ℕ). IsCellAt (cells_of name cpus ++ rest) n cpu) number
            (cell-in (cells_of name cpus ++ rest) cpu.0 cpu name (get-front (cells_of name cpus) rest cpu.0 (line_of name cpu.0) (cell-at name cpus cpu.0 lt)))
    first kinds.Mutex here = let other : kinds.Mutex ≡ kinds.Local = ap (λ (x : LockLine). x.kind) (only _ line i here) ∙ is.0 in absurd cc
    first kinds.Spin here = let other : kinds.Spin ≡ kinds.Local = ap (λ (x : LockLine). x.kind) (only _ line i here) ∙ is.0 in absurd cc
    first kinds.RwLock here = let other : kinds.RwLock ≡ kinds.Local = ap (λ (x : LockLine). x.kind) (only _ line i here) ∙ is.0 in absurd cc
    first kinds.RwSem here = let other : kinds.RwSem ≡ kinds.Local = ap (λ (x : LockLine). x.kind) (only _ line i here) ∙ is.0 in absurd cc

    by_part : (slice_get (locks_of cpus name kind) i ≡ Some line) ⊎ ((j : ℕ) × (j + length (locks_of cpus name kind) ≡ i) × (slice_get rest j ≡ Some line))
        → ((j : ℕ) → slice_get rest j ≡ Some line → IsCellAt rest (j + cpu.0) cpu) → IsCellAt (locks_of cpus name kind ++ rest) (i + cpu.0) cpu
    by_part (inl here) later = first kind here
    by_part (inr there) later =
        let further = later there.0 there.2 in
        let n : ℕ = length (locks_of cpus name kind) in
        let place : (there.0 + cpu.0) + n ≡ i + cpu.0 = let at = there.1 in omega arith in
        let here : slice_get (locks_of cpus name kind ++ rest) (i + cpu.0) ≡ Some further.line = subst (λ (k : ℕ). slice_get (locks_of cpus name kind ++ rest) k ≡ Some further.line) place (get-back (locks_of cpus name kind) rest (there.0 + cpu.0) ∙ further.at) in
        record { line = further.line; at = here; kind = further.kind; cell = further.cell; within = slice_get_within (locks_of cpus name kind ++ rest) (i + cpu.0) further.line here }

-- so the cell of each processor is there
pub cell-there : (script : Script) → IsScript script → (l : LockId) (cpu : Cpu) → IsLockOf script IsLocal l → cpu.0 < script.cpus → IsCellAt script.locks (cell l cpu).0 cpu
cell-there script valid l cpu is on = elim (slice_get_cases script.locks l.0).1 [
  | inl here ↦
      let local : IsLocal here.0 = rw here.2 at is in
      let at : slice_get (locks_of_lines script.cpus valid.whole.0) l.0 ≡ Some here.0 = subst (λ (locks : List LockLine). slice_get locks l.0 ≡ Some here.0) valid.whole.1 here.2 in
      subst (λ (locks : List LockLine). IsCellAt locks (cell l cpu).0 cpu) (sym valid.whole.1) (beside script.cpus valid.whole.0 l.0 here.0 cpu at local on)
  | inr past ↦ absurd (rw past.1 at is)
]
