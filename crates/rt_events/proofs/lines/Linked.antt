-- Links read one after the other, and a boost of too many parts.
use Rattle.std.proofs.Common.{◌≡◌, ℕ, zero, suc, ◌+◌, ◌-◌, ◌<◌, List, [], ◌∷◌, ◌++◌, Option, Some, None, refl, sym, ap, ◌∙◌, arith, append-nil, append_assoc}
use Rattle.std.specs.Prelude.{option_map, true}
use Rattle.rt_base.specs.Script.{Script}
use Rattle.rt_base.specs.declared.id.LockId.{LockId}
use Rattle.rt_base.specs.declared.id.TaskId.{TaskId}
use Rattle.rt_script.specs.Words.{◌>>=◌}
use Rattle.rt_script.specs.Names.{task_named}
use Rattle.rt_events.specs.reading.Operands.{links_in}
use Rattle.rt_events.specs.reading.Spelling.{lock_in}
use Rattle.rt_events.specs.reading.Tail.{is_plain, plain_front, plain_rest}

-- with these links in front
abbrev pub behind : List (ℕ × ℕ) → Option (List (ℕ × ℕ)) → Option (List (ℕ × ℕ))
behind path o = option_map (λ links. path ++ links) o

pub no_more : (script : Script) (most : ℕ) (path : List (ℕ × ℕ)) → behind path (links_in script most []) ≡ Some path
no_more script zero path = ap Some (append-nil path)
no_more script (suc most) path = ap Some (append-nil path)

pub odd : (script : Script) (most : ℕ) (path : List (ℕ × ℕ)) (w : List ℕ) → behind path (links_in script most (w ∷ [])) ≡ None
odd script zero path w = refl
odd script (suc most) path w = refl

pub too_many : (script : Script) (path : List (ℕ × ℕ)) (w : List ℕ) (ws : List (List ℕ)) → behind path (links_in script 0 (w ∷ ws)) ≡ None
too_many script path w [] = refl
too_many script path w (v ∷ ws) = refl

pub no_task : (script : Script) (most : ℕ) (path : List (ℕ × ℕ)) (t l : List ℕ) (ws : List (List ℕ)) → task_named script t ≡ None → behind path (links_in script (suc most) (t ∷ l ∷ ws)) ≡ None
no_task script most path t l ws e = rw e refl

pub no_lock : (script : Script) (most : ℕ) (path : List (ℕ × ℕ)) (t l : List ℕ) (ws : List (List ℕ)) (task : TaskId) → task_named script t ≡ Some task → lock_in script l ≡ None → behind path (links_in script (suc most) (t ∷ l ∷ ws)) ≡ None
no_lock script most path t l ws task e f = rw (e, f) refl

moved : (path : List (ℕ × ℕ)) (link : ℕ × ℕ) (o : Option (List (ℕ × ℕ))) → behind path (o >>= λ links. Some (link ∷ links)) ≡ behind (path ++ link ∷ []) o
moved path link None = refl
moved path link (Some links) = ap Some (sym (append_assoc path (link ∷ []) links))

pub one_more : (script : Script) (most : ℕ) (path : List (ℕ × ℕ)) (t l : List ℕ) (ws : List (List ℕ)) (task : TaskId) (lock : LockId) → task_named script t ≡ Some task → lock_in script l ≡ Some lock
    → behind path (links_in script (suc most) (t ∷ l ∷ ws)) ≡ behind (path ++ (task.0, lock.0) ∷ []) (links_in script most ws)
one_more script most path t l ws task lock e f = rw (e, f) (moved path (task.0, lock.0) (links_in script most ws))

-- ---- plain words

pub front_step : (ws : List (List ℕ)) (w : List ℕ) (more : List (List ℕ)) → ws ≡ w ∷ more → is_plain w ≡ true → plain_front ws ≡ w ∷ plain_front more
front_step ws w more e plain = rw (e, plain) refl

pub rest_step : (ws : List (List ℕ)) (w : List ℕ) (more : List (List ℕ)) → ws ≡ w ∷ more → is_plain w ≡ true → plain_rest ws ≡ plain_rest more
rest_step ws w more e plain = rw (e, plain) refl

-- two words more are read as a link
pub two_more : (script : Script) (counter : ℕ) (path : List (ℕ × ℕ)) (front : List (List ℕ)) (t l : List ℕ) (ws : List (List ℕ)) (task : TaskId) (lock : LockId) (whole : Option (List (ℕ × ℕ))) → counter < 64
    → front ≡ t ∷ l ∷ ws → task_named script t ≡ Some task → lock_in script l ≡ Some lock → behind path (links_in script (64 - counter) front) ≡ whole
    → behind (path ++ (task.0, lock.0) ∷ []) (links_in script (64 - (counter + 1)) ws) ≡ whole
two_more script counter path front t l ws task lock whole lt is e f left =
    let most : 64 - counter ≡ suc (64 - (counter + 1)) = omega arith in
    sym (one_more script (64 - (counter + 1)) path t l ws task lock e f) ∙ (λ i. behind path (links_in script (sym most i) (sym is i))) ∙ left
