-- What is drawn, one after the other.
use Rattle.std.proofs.Common.{◌≡◌, ℕ, zero, suc, ◌+◌, ◌*◌, ◌<◌, inl, inr, List, [], ◌∷◌, ◌++◌, length, get_or, Vec, refl, ap, sym, ◌∙◌, subst, arith, add-one, length-append}
use Rattle.std.specs.Prelude.{map, All}
use Rattle.std.proofs.lemmas.Bool.{cases_lt}
use Rattle.std.proofs.lemmas.List.{get_or_append_left, get_or_push, map-append}
use Rattle.rt_base.specs.declared.call.Call.{Call}
use Rattle.rt_base.specs.declared.id.Cpu.{Cpu}
use Rattle.rt_script.specs.Building.{task_plan}
use Rattle.rt_policy.specs.Draws.{number_after, draw}
use Rattle.rt_policy.specs.Generator.{each, block, blocks, start, task}

-- ---- one more

pub each-none : {A : Type 0} (f : ℕ → A) → each 0 f ≡ []
unfolding each
each-none f = refl

pub each-next : {A : Type 0} (n : ℕ) (f : ℕ → A) → each (n + 1) f ≡ each n f ++ f n ∷ []
unfolding each
each-next n f = rw add-one refl

pub blocks-none : (x : ℕ) → blocks x 0 ≡ []
unfolding blocks
blocks-none x = refl

pub blocks-next : (x n : ℕ) → blocks x (n + 1) ≡ blocks x n ++ block (number_after x (3 * n))
unfolding blocks
blocks-next x n = rw add-one refl

-- one task more, where what it starts with and its calls are drawn
pub tasks-next : {A : Type 0} (x n y : ℕ) (tasks : List (ℕ × Cpu × Vec Call A)) (s : ℕ × Cpu) (calls : Vec Call A) → map task_plan tasks ≡ each n (task x) → s ≡ start x n → y ≡ number_after x (64 + 300 * n) → calls.items ≡ blocks y 100
    → map task_plan (tasks ++ (s.0, s.1, calls) ∷ []) ≡ each (n + 1) (task x)
tasks-next x n y tasks s calls before starts from drawn =
    let calls-are : calls.items ≡ blocks (number_after x (64 + 300 * n)) 100 = drawn ∙ ap (λ (z : ℕ). blocks z 100) from in
    let one : task_plan (s.0, s.1, calls) ≡ task x n = λ i. record { own = (starts i).0; cpu = (starts i).1; calls = calls-are i } in
    rw (map-append, before, each-next) (ap (λ t. each n (task x) ++ t ∷ []) one)

-- ---- the whole

pub length-each : {A : Type 0} (n : ℕ) (f : ℕ → A) → length (each n f) ≡ n
unfolding each
length-each zero f = refl
length-each (suc n) f = omega (arith, length-append (each n f) (f n ∷ []), length-each n f)

pub each-at : {A : Type 0} (n i : ℕ) (f : ℕ → A) (d : A) → i < n → get_or (each n f) i d ≡ f i
unfolding each
each-at zero i f d lt = absurd (omega arith)
each-at (suc n) i f d lt = elim (cases_lt i n) [
  | inl below ↦ get_or_append_left (each n f) (f n ∷ []) d i (omega (arith, length-each n f)) ∙ each-at n i f d below
  | inr above ↦ let same : n ≡ i = omega arith in get_or_push (each n f) (f n) d i (length-each n f ∙ same) ∙ ap f same
]

-- what holds of each f i holds of all
pub All-each : {A : Type 0} (P : A → Type 0) (n : ℕ) (f : ℕ → A) → ((i : ℕ) → P (f i)) → All P (each n f)
All-each P n f holds k d lt = subst P (sym (each-at n k f d (omega (arith, length-each n f)))) (holds k)

pub ruleset parts = (each-none, each-next, blocks-none, blocks-next)
