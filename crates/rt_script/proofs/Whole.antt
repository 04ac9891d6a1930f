-- The text of a script from the texts of its parts.
use Rattle.std.proofs.Common.{◌≡◌, ℕ, ◌+◌, ◌<◌, Bool, true, false, cond, List, [], ◌∷◌, ◌++◌, length, get_or, take, map, refl, sym, ap, ◌∙◌, append_assoc}
use Rattle.std.specs.Prelude.{codes, filter, flat_map}
use Rattle.std.proofs.lemmas.Grind.{flat_map-append}
use Rattle.std.proofs.lemmas.List.{take_more, flat_map_more}
use Rattle.std.proofs.lemmas.List.Folds.{flat_map-map}
use Rattle.rt_base.specs.Script.{Script, TaskLine, LockLine, is_first_cell}
use Rattle.rt_script.specs.Canonical.{cpus_line_text, task_line_text, lock_line_text, call_line_text, pick_line_text, lined_locks, call_line_texts, with_line_feed, canonical, calls_text, tasks_part, locks_part, calls_part, picks_part}

if_kept : {X Y : Type 0} (b : Bool) (f : X → List Y) (x : X) (ys : List Y) (xs : List X) → ys ≡ flat_map f xs → cond b (f x) [] ++ ys ≡ flat_map f (cond b (x ∷ xs) xs)
if_kept true f x ys xs e = ap (λ ys. f x ++ ys) e
if_kept false f x ys xs e = e

flat_map-filter : {X Y : Type 0} (f : X → List Y) (p : X → Bool) (xs : List X) → flat_map (λ x. cond (p x) (f x) []) xs ≡ flat_map f (filter p xs)
flat_map-filter f p [] = refl
flat_map-filter f p (x ∷ xs) = if_kept (p x) f x (flat_map (λ x. cond (p x) (f x) []) xs) (filter p xs) (flat_map-filter f p xs)

locks_are : (s : Script) → flat_map with_line_feed (map lock_line_text (lined_locks s)) ≡ locks_part s.locks
locks_are s =
    flat_map-map with_line_feed lock_line_text (lined_locks s)
    ∙ sym (flat_map-filter (λ (lock : LockLine). with_line_feed (lock_line_text lock)) (λ (lock : LockLine). is_first_cell lock.cell) s.locks)

calls_of : (s : Script) (tasks : List TaskLine) → flat_map with_line_feed (flat_map (call_line_texts s) tasks) ≡ flat_map (calls_text s) tasks
calls_of s [] = refl
calls_of s (t ∷ ts) =
    flat_map-append with_line_feed (call_line_texts s t) (flat_map (call_line_texts s) ts) ∙ (λ i. flat_map-map with_line_feed (call_line_text s t) t.calls i ++ calls_of s ts i)

in_order : (o h c t l k p g : List ℕ) → o ++ h ++ c ++ t ++ l ++ k ++ p ++ g ≡ o ++ (h ++ (c ++ (t ++ l ++ k ++ p ++ g)))
in_order o h c t l k p g = simp append_assoc refl

-- the parts one after another are the text
canonical_is : (s : Script) (old : List ℕ) → old ++ codes "rtscript 1\n" ++ with_line_feed (cpus_line_text s.cpus) ++ tasks_part s.tasks ++ locks_part s.locks ++ calls_part s ++ picks_part s ++ codes "go\n" ≡ old ++ canonical s
canonical_is s old =
    let w : List ℕ → List ℕ = with_line_feed in
    let tasks : List (List ℕ) = map task_line_text s.tasks in
    let locks : List (List ℕ) = map lock_line_text (lined_locks s) in
    let calls : List (List ℕ) = flat_map (call_line_texts s) s.tasks in
    let picks : List (List ℕ) = map (pick_line_text s) s.picks in
    let to_locks : flat_map w (tasks ++ locks) ≡ tasks_part s.tasks ++ locks_part s.locks = flat_map-append w tasks locks ∙ (λ i. flat_map-map w task_line_text s.tasks i ++ locks_are s i) in
    let to_calls : flat_map w (tasks ++ locks ++ calls) ≡ tasks_part s.tasks ++ locks_part s.locks ++ calls_part s = flat_map-append w (tasks ++ locks) calls ∙ (λ i. to_locks i ++ calls_of s s.tasks i) in
    let to_picks : flat_map w (tasks ++ locks ++ calls ++ picks) ≡ tasks_part s.tasks ++ locks_part s.locks ++ calls_part s ++ picks_part s =
    flat_map-append w (tasks ++ locks ++ calls) picks ∙ (λ i. to_calls i ++ flat_map-map w (pick_line_text s) s.picks i) in
    let to_end : flat_map w (tasks ++ locks ++ calls ++ picks ++ codes "go" ∷ []) ≡ tasks_part s.tasks ++ locks_part s.locks ++ calls_part s ++ picks_part s ++ codes "go\n" =
    flat_map-append w (tasks ++ locks ++ calls ++ picks) (codes "go" ∷ []) ∙ ap (λ ys. ys ++ codes "go\n") to_picks in
    in_order old (codes "rtscript 1\n") (with_line_feed (cpus_line_text s.cpus)) (tasks_part s.tasks) (locks_part s.locks) (calls_part s) (picks_part s) (codes "go\n")
    ∙ sym (ap (λ (ys : List ℕ). old ++ (codes "rtscript 1\n" ++ (with_line_feed (cpus_line_text s.cpus) ++ ys))) to_end)

-- a text that is appended part by part
pub whole_text : (s : Script) (cpus : ℕ) (tasks : List TaskLine) (locks : List LockLine) (old a b c d e f g : List ℕ) → cpus ≡ s.cpus → tasks ≡ s.tasks → locks ≡ s.locks → a ≡ old ++ codes "rtscript 1\n"
    → b ≡ a ++ with_line_feed (cpus_line_text cpus) → c ≡ b ++ tasks_part tasks → d ≡ c ++ locks_part locks → e ≡ d ++ calls_part s → f ≡ e ++ picks_part s → g ≡ f ++ codes "go\n" → g ≡ old ++ canonical s
whole_text s cpus tasks locks old a b c d e f g same-cpus same-tasks same-locks header from-cpus from-tasks from-locks from-calls from-picks go =
    let to-header : a ≡ old ++ codes "rtscript 1\n" = header in
    let to-cpus : b ≡ old ++ codes "rtscript 1\n" ++ with_line_feed (cpus_line_text s.cpus) = from-cpus ∙ (λ i. to-header i ++ with_line_feed (cpus_line_text (same-cpus i))) in
    let to-tasks : c ≡ old ++ codes "rtscript 1\n" ++ with_line_feed (cpus_line_text s.cpus) ++ tasks_part s.tasks = from-tasks ∙ (λ i. to-cpus i ++ tasks_part (same-tasks i)) in
    let to-locks : d ≡ old ++ codes "rtscript 1\n" ++ with_line_feed (cpus_line_text s.cpus) ++ tasks_part s.tasks ++ locks_part s.locks = from-locks ∙ (λ i. to-tasks i ++ locks_part (same-locks i)) in
    go ∙ ap (λ ys. ys ++ codes "go\n") (from-picks ∙ ap (λ ys. ys ++ picks_part s) (from-calls ∙ ap (λ ys. ys ++ calls_part s) to-locks)) ∙ canonical_is s old

-- a loop over a list, whose text is so far that of the elements before
pub text_more : {X : Type 0} (f : X → List ℕ) (xs : List X) (i : ℕ) (x : X) (start out new : List ℕ) → i < length xs → x ≡ get_or xs i x → out ≡ start ++ flat_map f (take i xs) → new ≡ out ++ f x → new ≡ start ++ flat_map f (take (i + 1) xs)
text_more {X = X} f xs i x start out new lt is before after =
    let next : take (i + 1) xs ≡ take i xs ++ x ∷ [] = take_more xs i x lt ∙ ap (λ (y : X). take i xs ++ y ∷ []) (sym is) in
    after ∙ ap (λ (ys : List ℕ). ys ++ f x) before ∙ flat_map_more f start (take i xs) x ∙ ap (λ ys. start ++ flat_map f ys) (sym next)
