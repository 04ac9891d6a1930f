-- The boost and the answer of a line are read as they were told, and nothing else is.
use Rattle.std.proofs.Common.{◌≡◌, ℕ, ◌≤◌, Bool, true, false, cond, not, ◌&&◌, List, [], ◌∷◌, ◌++◌, Option, Some, None, IfSome, refl, sym, ap, subst, ◌∙◌, arith}
use Rattle.std.specs.Prelude.{codes, decimal, bytes_eq, ◌==◌, ◌||◌}
use Rattle.std.specs.List.{list_all, slice_split, join_with_byte}
use Rattle.std.proofs.lemmas.Bool.Decides.{nat_tests}
use Rattle.std.proofs.lemmas.List.Folds.{list_all-append}
use Rattle.std.proofs.lemmas.List.Splits.{slice_split_none, slice_split_at, join_with_byte-slice_split}
use Rattle.rt_base.specs.Script.{Script, IsScript}
use Rattle.rt_base.specs.declared.id.TaskId.{TaskId}
use Rattle.rt_base.specs.declared.reply.Reply.{Reply}
use Rattle.rt_events.specs.Words.{task_word, reply_word}
use Rattle.rt_events.specs.Line.{boost_word, boost_words, reply_words}
use Rattle.rt_events.specs.WellFormed.{IsTaskIn}
use Rattle.rt_events.specs.reading.Spelling.{reply_in}
use Rattle.rt_events.specs.reading.Tail.{boost_parts, boost_in, answer_in, tail_in}
use Rattle.rt_script.specs.Names.{task_named}
use Rattle.rt_script.specs.Words.{◌>>=◌, number_upto}
use Rattle.rt_events.proofs.lines.Chains.{after, passed, is_word_read, some_is, ended, firsts}
use Rattle.rt_events.proofs.lines.NameWords.{tasks_said, task_read}
use Rattle.rt_events.proofs.lines.Numerals.{number_read, numbers_said}
use Rattle.rt_events.proofs.lines.Solid.{is_solid_byte, without, solid_number, solid_task, is_tail}
use Rattle.rt_events.proofs.lines.Spelled.{replies_said, reply_read}

-- the boost and the answer, where they are told
abbrev pub tail_words : Script → Option (TaskId × ℕ) → Option Reply → List (List ℕ)
tail_words script boost reply = boost_words script boost ++ reply_words reply

answer_said : (ws : List (List ℕ)) (o : Option Reply) → answer_in ws ≡ Some o → reply_words o ≡ ws
answer_said [] o e = ap reply_words (sym (some_is None o e))
answer_said (w ∷ ws) o e =
    let p = passed (bytes_eq w (codes "->")) _ o e in
    let r = firsts reply_in reply_word (λ r. Unit {0}) _ (λ w r e. (replies_said w r e, tt)) ws o p.1 in
    let end = ended (Some r.0) o r.1 r.4 in
    ap reply_words (sym end.1) ∙ (λ i. sym (is_word_read w (codes "->") p.0) i ∷ (ap (λ more. reply_word r.0 ∷ more) (sym end.0) ∙ r.3) i)

answer_read : (o : Option Reply) → answer_in (reply_words o) ≡ Some o
answer_read None = refl
answer_read (Some r) = rw (reply_read r) refl

abbrev pub IsBoost : Script → TaskId × ℕ → Type 0
IsBoost script boost = IsTaskIn script boost.0 × (boost.1 ≤ 139)

parts_said : (script : Script) (parts : List (List ℕ)) (boost : TaskId × ℕ) → boost_parts script parts ≡ Some boost → (join_with_byte 61 parts ≡ boost_word script boost) × IsBoost script boost
parts_said script [] boost e = absurd cc
parts_said script (t ∷ []) boost e = absurd cc
parts_said script (t ∷ p ∷ q ∷ parts) boost e = absurd cc
parts_said script (t ∷ p ∷ []) boost e =
    let task = after (task_named script t) _ boost e in
    let prio = after (number_upto 139 p) _ boost task.2 in
    let t-is = tasks_said script t task.0 task.1 in
    let p-is = numbers_said 139 p prio.0 prio.1 in
    subst (λ (b : TaskId × ℕ). (join_with_byte 61 (t ∷ p ∷ []) ≡ boost_word script b) × IsBoost script b) (some_is (task.0, prio.0) boost prio.2) ((λ i. sym t-is.0 i ++ 61 ∷ sym p-is.0 i), (t-is.1, p-is.1))

boost_said : (script : Script) (w : List ℕ) (boost : TaskId × ℕ) → boost_in script w ≡ Some boost → (boost_word script boost ≡ w) × IsBoost script boost
boost_said script w boost e =
    let is = parts_said script (slice_split (λ b. b == 61) w) boost e in
    (sym is.0 ∙ join_with_byte-slice_split 61 w, is.1)

no_equals : (b : ℕ) → is_solid_byte b ≡ true → (b == 61) ≡ false
no_equals b e = grind (arith, nat_tests)

boost_read : (script : Script) → IsScript script → (boost : TaskId × ℕ) → IsBoost script boost → boost_in script (boost_word script boost) ≡ Some boost
boost_read script is boost fits =
    let task : List ℕ = task_word script boost.0 in
    let prio : List ℕ = decimal boost.1 in
    let front = without is_solid_byte (λ b. b == 61) no_equals task (solid_task script is boost.0 fits.0) in
    let back = without is_solid_byte (λ b. b == 61) no_equals prio (solid_number boost.1 (omega (arith, fits.1))) in
    let split : slice_split (λ b. b == 61) (task ++ 61 ∷ prio) ≡ task ∷ prio ∷ [] = slice_split_at (λ b. b == 61) task 61 prio front refl ∙ ap (λ more. task ∷ more) (slice_split_none (λ b. b == 61) prio back) in
    rw (split, task_read script is boost.0 fits.0, number_read 139 boost.1 fits.1 (omega arith)) refl

abbrev pub IsTailSaid : Script → List (List ℕ) → Option (TaskId × ℕ) × Option Reply → Type 0
IsTailSaid script ws tail = (tail_words script tail.0 tail.1 ≡ ws) × IfSome tail.0 (IsBoost script)

pub tail_said : (script : Script) (ws : List (List ℕ)) (tail : Option (TaskId × ℕ) × Option Reply) → tail_in script ws ≡ Some tail → IsTailSaid script ws tail
tail_said script [] tail e = subst (IsTailSaid script []) (some_is (None, None) tail e) (refl, tt)
tail_said script (w ∷ ws) tail e = by (bytes_eq w (codes "->")) e
  where
    by : (b : Bool) → cond b (answer_in (w ∷ ws) >>= λ reply. Some (None, reply)) (boost_in script w >>= λ boost. answer_in ws >>= λ reply. Some (Some boost, reply)) ≡ Some tail → IsTailSaid script (w ∷ ws) tail
    by true e =
        let r = after (answer_in (w ∷ ws)) _ tail e in
        subst (IsTailSaid script (w ∷ ws)) (some_is (None, r.0) tail r.2) (answer_said (w ∷ ws) r.0 r.1, tt)
    by false e =
        let b = after (boost_in script w) _ tail e in
        let r = after (answer_in ws) _ tail b.2 in
        let boost = boost_said script w b.0 b.1 in
        subst (IsTailSaid script (w ∷ ws)) (some_is (Some b.0, r.0) tail r.2) ((λ i. boost.0 i ∷ answer_said ws r.0 r.1 i), boost.1)

-- a boost's word has a byte that keeps it from being plain, and from being an arrow
not_all : (p : ℕ → Bool) (a : List ℕ) (b : ℕ) (c : List ℕ) → p b ≡ false → list_all p (a ++ b ∷ c) ≡ false
not_all p a b c e = list_all-append p a (b ∷ c) ∙ by (list_all p a) (p b) (list_all p c) e
  where
    by : (x y z : Bool) → y ≡ false → (x && (y && z)) ≡ false
    by true false z e = refl
    by false y z e = refl
    by true true z e = absurd cc

not_true : (b : Bool) → b ≡ false → not b ≡ true
not_true b e = rw e refl

abbrev is_arrow_byte : ℕ → Bool
is_arrow_byte b = b == 45 || b == 62

not_arrow : (a c : List ℕ) → bytes_eq (a ++ 61 ∷ c) (codes "->") ≡ false
not_arrow a c = by (bytes_eq (a ++ 61 ∷ c) (codes "->")) refl
  where
    by : (b : Bool) → bytes_eq (a ++ 61 ∷ c) (codes "->") ≡ b → b ≡ false
    by false e = refl
    by true e =
        let is : list_all is_arrow_byte (a ++ 61 ∷ c) ≡ true = ap (list_all is_arrow_byte) (is_word_read (a ++ 61 ∷ c) (codes "->") e) in
        let isnt : list_all is_arrow_byte (a ++ 61 ∷ c) ≡ false = not_all is_arrow_byte a 61 c refl in
        absurd cc

pub tail_read : (script : Script) → IsScript script → (boost : Option (TaskId × ℕ)) (reply : Option Reply) → IfSome boost (IsBoost script) → tail_in script (tail_words script boost reply) ≡ Some (boost, reply)
tail_read script is None None fits = refl
tail_read script is None (Some r) fits = rw (reply_read r) refl
tail_read script is (Some b) reply fits = rw (not_arrow (task_word script b.0) (decimal b.1), boost_read script is b fits, answer_read reply) refl

pub tail_begins : (script : Script) (boost : Option (TaskId × ℕ)) (reply : Option Reply) → is_tail (tail_words script boost reply) ≡ true
tail_begins script None None = refl
tail_begins script None (Some r) = refl
tail_begins script (Some b) reply = not_true _ (not_all (λ b. not (b == 61) && not (b == 62)) (task_word script b.0) 61 (decimal b.1) refl)
