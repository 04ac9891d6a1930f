-- A line is read as the entry that it tells, and no other line is.
use Rattle.std.proofs.Common.{◌≡◌, ℕ, ◌≤◌, Bool, true, false, not, ◌&&◌, List, [], ◌∷◌, ◌++◌, Option, Some, None, IfSome, refl, sym, ap, subst, ◌∙◌, arith, append-nil}
use Rattle.std.specs.Prelude.{decimal, ◌^◌, ◌-◌, ◌==◌}
use Rattle.std.specs.List.{list_all, slice_split, join_with_byte}
use Rattle.std.proofs.lemmas.Bool.Decides.{nat_tests}
use Rattle.std.proofs.lemmas.List.Folds.{list_all-append}
use Rattle.std.proofs.lemmas.List.Splits.{slice_split_none, slice_split_at, join_with_byte-slice_split}
use Rattle.rt_base.specs.Script.{Script, IsScript}
use Rattle.rt_base.specs.declared.id.TaskId.{TaskId}
use Rattle.rt_base.specs.declared.reply.Reply.{Reply}
use Rattle.rt_model.specs.declared.event_kind.EventKind.{EventKind}
use Rattle.rt_model.specs.declared.event_kind.EventKind.TheVariants as kinds
use Rattle.rt_events.specs.declared.entry.Entry.{Entry}
use Rattle.rt_events.specs.Words.{spaced, task_word, kind_word, reply_word}
use Rattle.rt_events.specs.Line.{operands, boost_word, told_words, line_of, IsLineOf}
use Rattle.rt_events.specs.WellFormed.{HasValue, IsWellFormed}
use Rattle.rt_events.specs.reading.EntryIn.{entry_told, entry_of_words, entry_of_lines, entry_in}
use Rattle.rt_events.specs.reading.Operands.{operands_in}
use Rattle.rt_events.specs.reading.Spelling.{kind_in}
use Rattle.rt_events.specs.reading.Tail.{plain_front, plain_rest, tail_in}
use Rattle.rt_script.specs.Names.{task_named}
use Rattle.rt_script.specs.Words.{words_of, number_upto}
use Rattle.rt_events.proofs.Named.{named}
use Rattle.rt_events.proofs.lines.Chains.{after, some_is}
use Rattle.rt_events.proofs.lines.NameWords.{tasks_said, task_read}
use Rattle.rt_events.proofs.lines.Numerals.{number_read, numbers_said}
use Rattle.rt_events.proofs.lines.OperandsRead.{reads, kind_value, kind_value_has, kind_value_word}
use Rattle.rt_events.proofs.lines.OperandsSaid.{says}
use Rattle.rt_events.proofs.lines.Solid.{is_solid_byte, is_solid, are_solid, left, right, both, weaker, without, solid_number, solid_task, kind_solid, reply_solid, operands_solid, undashed, front_is, rest_is, front_rest}
use Rattle.rt_events.proofs.lines.Spelled.{kinds_said, kind_read}
use Rattle.rt_events.proofs.lines.TailWords.{tail_words, IsBoost, tail_said, tail_read, tail_begins}

-- all words of a line
abbrev pub entry_words : Script → Entry → List (List ℕ)
entry_words script n = decimal n.number ∷ told_words script n

-- ---- the words of a line

pub IsSaid : Script → List (List ℕ) → Entry → Type 0
IsSaid script ws n = (entry_words script n ≡ ws) × IsWellFormed script n

pub words_said : (script : Script) → IsScript script → (ws : List (List ℕ)) (n : Entry) → entry_of_words script ws ≡ Some n → IsSaid script ws n
unfolding IsSaid
words_said script is [] n e = absurd cc
words_said script is (a ∷ []) n e = absurd cc
words_said script is (a ∷ b ∷ []) n e = absurd cc
words_said script is (a ∷ b ∷ c ∷ ws) n e =
    let number = after (number_upto (2 ^ 64 - 1) a) _ n e in
    let task = after (task_named script b) _ n number.2 in
    let kind = after (kind_in c) _ n task.2 in
    let o = after (operands_in kind.0.0 script kind.0.1 (plain_front ws)) _ n kind.2 in
    let tail = after (tail_in script (plain_rest ws)) _ n o.2 in
    let number-is = numbers_said (2 ^ 64 - 1) a number.0 number.1 in
    let task-is = tasks_said script b task.0 task.1 in
    let kind-is = kinds_said c kind.0 kind.1 in
    let tail-is = tail_said script (plain_rest ws) tail.0 tail.1 in
    let o-is = says script is number.0 task.0 tail.0.0 tail.0.1 kind.0.0 kind.0.1 kind-is.1 (plain_front ws) o.0 o.1 in
    let more : operands script kind.0.0 (entry_told number.0 task.0 kind.0.0 o.0 tail.0.0 tail.0.1) ++ tail_words script tail.0.0 tail.0.1 ≡ ws = (λ i. o-is.words i ++ tail-is.0 i) ∙ front_rest ws in
    let word : kind_word kind.0.0 o.0.value ≡ c = o-is.kind_is ∙ kind-is.0 in
    subst (λ (n : Entry). (entry_words script n ≡ a ∷ b ∷ c ∷ ws) × IsWellFormed script n) (some_is _ n tail.2)
    ((λ i. number-is.0 i ∷ task-is.0 i ∷ word i ∷ more i), record { number = omega (arith, number-is.1); task = task-is.1; lock = o-is.lock; other = o-is.other; woken = o-is.woken; value = o-is.value_is; path = o-is.path; boost = tail-is.1 })

value_small : (kind : EventKind) (value : ℕ) → HasValue kind value → value ≤ 139
value_small kinds.Busy value v = omega (arith, v)
value_small kinds.WOpen value v = omega (arith, v)
value_small kinds.Wake value v = omega (arith, v)
value_small kinds.State value v = omega (arith, v)
value_small kinds.SetPrio value v = omega (arith, v)
value_small _ value v = rw v (omega arith)

pub words_read : (script : Script) → IsScript script → (n : Entry) → IsWellFormed script n → entry_of_words script (entry_words script n) ≡ Some n
words_read script is n has =
    let v : ℕ = kind_value n.kind n.value in
    let kind : kind_in (kind_word n.kind n.value) ≡ Some (n.kind, v) = ap kind_in (kind_value_word n.kind n.value) ∙ kind_read n.kind v (kind_value_has n.kind n.value has.value) in
    let solid = operands_solid script is n.kind n (named script n has) (omega (arith, value_small n.kind n.value has.value)) in
    let tail = tail_begins script n.boost n.reply in
    let told = reads script is (undashed script is) n.kind n has.lock has.other has.woken has.value has.path in
    rw (number_read (2 ^ 64 - 1) n.number (omega (arith, has.number)) (omega arith), task_read script is n.task has.task, kind, front_is (operands script n.kind n) (tail_words script n.boost n.reply) solid tail, rest_is (operands script n.kind n) (tail_words script n.boost n.reply) solid tail, told, tail_read script is n.boost n.reply has.boost) refl

-- ---- the line

-- a line without its line feed
abbrev pub joined : List ℕ → List (List ℕ) → List ℕ
joined first words = first ++ spaced words

join_is : (first : List ℕ) (words : List (List ℕ)) → join_with_byte 32 (first ∷ words) ≡ joined first words
join_is first [] = sym (append-nil first)
join_is first (w ∷ ws) = ap (λ more. first ++ 32 ∷ more) (join_is w ws)

-- no space and no line feed
abbrev pub is_dense_byte : ℕ → Bool
is_dense_byte b = not (b == 32) && not (b == 10)

abbrev pub is_dense : List ℕ → Bool
is_dense word = list_all is_dense_byte word

pub no_space : (b : ℕ) → is_dense_byte b ≡ true → (b == 32) ≡ false
no_space b e = grind (arith, nat_tests)

dense_byte : (b : ℕ) → is_solid_byte b ≡ true → is_dense_byte b ≡ true
dense_byte b e = grind (arith, nat_tests)

pub dense_word : (word : List ℕ) → is_solid word ≡ true → is_dense word ≡ true
dense_word word e = weaker is_solid_byte is_dense_byte dense_byte word e

dense_words : (words : List (List ℕ)) → are_solid words ≡ true → list_all is_dense words ≡ true
dense_words [] e = refl
dense_words (w ∷ ws) e = both _ _ (dense_word w (left _ _ e)) (dense_words ws (right _ _ e))

words_joined : (first : List ℕ) (words : List (List ℕ)) → list_all is_dense (first ∷ words) ≡ true → words_of (joined first words) ≡ first ∷ words
words_joined first [] e = rw (append-nil first) (slice_split_none (λ b. b == 32) first (without is_dense_byte (λ b. b == 32) no_space first (left _ _ e)))
words_joined first (w ∷ ws) e =
    slice_split_at (λ b. b == 32) first 32 (joined w ws) (without is_dense_byte (λ b. b == 32) no_space first (left _ _ e)) refl ∙ ap (λ rest. first ∷ rest) (words_joined w ws (right _ _ e))

abbrev pub is_in_line : ℕ → Bool
is_in_line b = not (b == 10)

in_line : (b : ℕ) → is_dense_byte b ≡ true → is_in_line b ≡ true
in_line b e = grind (arith, nat_tests)

no_feed : (b : ℕ) → is_in_line b ≡ true → (b == 10) ≡ false
no_feed b e = grind (arith, nat_tests)

spaced_in_line : (words : List (List ℕ)) → list_all is_dense words ≡ true → list_all is_in_line (spaced words) ≡ true
spaced_in_line [] e = refl
spaced_in_line (w ∷ ws) e = list_all-append is_in_line w (spaced ws) ∙ both _ _ (weaker is_dense_byte is_in_line in_line w (left _ _ e)) (spaced_in_line ws (right _ _ e))

pub joined_in_line : (first : List ℕ) (words : List (List ℕ)) → list_all is_dense (first ∷ words) ≡ true → list_all is_in_line (joined first words) ≡ true
joined_in_line first words e = list_all-append is_in_line first (spaced words) ∙ both _ _ (weaker is_dense_byte is_in_line in_line first (left _ _ e)) (spaced_in_line words (right _ _ e))

dense_boost : (script : Script) → IsScript script → (boost : TaskId × ℕ) → IsBoost script boost → is_dense (boost_word script boost) ≡ true
dense_boost script is boost fits =
    list_all-append is_dense_byte (task_word script boost.0) (61 ∷ decimal boost.1)
    ∙ both _ _ (dense_word (task_word script boost.0) (solid_task script is boost.0 fits.0)) (both _ _ refl (dense_word (decimal boost.1) (solid_number boost.1 (omega (arith, fits.1)))))

tail_dense : (script : Script) → IsScript script → (boost : Option (TaskId × ℕ)) (reply : Option Reply) → IfSome boost (IsBoost script) → list_all is_dense (tail_words script boost reply) ≡ true
tail_dense script is None None fits = refl
tail_dense script is None (Some r) fits = both _ _ refl (both _ _ (dense_word (reply_word r) (reply_solid r)) refl)
tail_dense script is (Some b) None fits = both _ _ (dense_boost script is b fits) refl
tail_dense script is (Some b) (Some r) fits = both _ _ (dense_boost script is b fits) (both _ _ refl (both _ _ (dense_word (reply_word r) (reply_solid r)) refl))

pub all_dense : (script : Script) → IsScript script → (n : Entry) → IsWellFormed script n → list_all is_dense (entry_words script n) ≡ true
all_dense script is n has =
    let solid = operands_solid script is n.kind n (named script n has) (omega (arith, value_small n.kind n.value has.value)) in
    both _ _ (dense_word (decimal n.number) (solid_number n.number has.number)) (
    both _ _ (dense_word (task_word script n.task) (solid_task script is n.task has.task)) (
    both _ _ (dense_word (kind_word n.kind n.value) (kind_solid n.kind n.value)) (
    list_all-append is_dense (operands script n.kind n) (tail_words script n.boost n.reply) ∙ both _ _ (dense_words (operands script n.kind n) solid) (tail_dense script is n.boost n.reply has.boost))))

-- a well formed entry's line is read as that entry
pub read_back : (script : Script) → IsScript script → (n : Entry) → IsWellFormed script n → entry_in script (line_of script n) ≡ Some n
read_back script is n has =
    let dense = all_dense script is n has in
    let body : List ℕ = joined (decimal n.number) (told_words script n) in
    let one_line : slice_split (λ b. b == 10) (body ++ 10 ∷ []) ≡ body ∷ [] ∷ [] = slice_split_at (λ b. b == 10) body 10 [] (without is_in_line (λ b. b == 10) no_feed body (joined_in_line (decimal n.number) (told_words script n) dense)) refl in
    ap (entry_of_lines script) one_line ∙ ap (entry_of_words script) (words_joined (decimal n.number) (told_words script n) dense) ∙ words_read script is n has

lines_said : (script : Script) → IsScript script → (lines : List (List ℕ)) (n : Entry) → entry_of_lines script lines ≡ Some n → IsLineOf script (join_with_byte 10 lines) n
unfolding IsSaid
lines_said script is [] n e = absurd cc
lines_said script is (l ∷ []) n e = absurd cc
lines_said script is (l ∷ (b ∷ bs) ∷ ls) n e = absurd cc
lines_said script is (l ∷ [] ∷ m ∷ ls) n e = absurd cc
lines_said script is (l ∷ [] ∷ []) n e =
    let said = words_said script is (words_of l) n e in
    let body : joined (decimal n.number) (told_words script n) ≡ l = sym (join_is (decimal n.number) (told_words script n)) ∙ ap (join_with_byte 32) said.0 ∙ join_with_byte-slice_split 32 l in
    (ap (λ body. body ++ 10 ∷ []) body, said.1)

-- what was read is the entry whose line it was
pub said : (script : Script) → IsScript script → (line : List ℕ) (n : Entry) → entry_in script line ≡ Some n → IsLineOf script line n
said script is line n e = subst (λ line. IsLineOf script line n) (join_with_byte-slice_split 10 line) (lines_said script is (slice_split (λ b. b == 10) line) n e)
