-- What holds of every journal's line.
use Rattle.std.proofs.Common.{◌≡◌, ℕ, true, not, List, [], ◌∷◌, ◌++◌, refl, sym, ap, ◌∙◌, append_assoc}
use Rattle.std.specs.Prelude.{decimal, ◌==◌}
use Rattle.std.specs.List.{list_all}
use Rattle.std.proofs.lemmas.List.Splits.{slice_split_at}
use Rattle.rt_base.specs.Script.{Script, IsScript}
use Rattle.rt_script.specs.Words.{words_of}
use Rattle.rt_events.specs.declared.entry.Entry.{Entry}
use Rattle.rt_events.specs.Words.{spaced, task_word, kind_word}
use Rattle.rt_events.specs.Line.{operands, boost_words, reply_words, told_words, line_of}
use Rattle.rt_events.specs.WellFormed.{IsWellFormed}
use Rattle.rt_events.specs.reading.EntryIn.{entry_in}
use Rattle.rt_events.proofs.lines.Chains.{some_is}
use Rattle.rt_events.proofs.lines.Solid.{left, right, without}
use Rattle.rt_events.proofs.lines.WholeLine.{joined, is_dense_byte, no_space, all_dense, joined_in_line, read_back}

-- two well formed entries of one line are one
pub one_entry : (script : Script) → IsScript script → (m n : Entry) → IsWellFormed script m → IsWellFormed script n → line_of script m ≡ line_of script n → m ≡ n
one_entry script is m n m-fits n-fits e = some_is m n (sym (read_back script is m m-fits) ∙ ap (entry_in script) e ∙ read_back script is n n-fits)

-- an entry's line ends in its only line feed
pub one_line : (script : Script) → IsScript script → (n : Entry) → IsWellFormed script n → (body : List ℕ) × (line_of script n ≡ body ++ 10 ∷ []) × (list_all (λ b. not (b == 10)) body ≡ true)
one_line script is n has = (joined (decimal n.number) (told_words script n), refl, joined_in_line (decimal n.number) (told_words script n) (all_dense script is n has))

-- it begins with the digits of its number
pub begins : (script : Script) (n : Entry) → (more : List ℕ) × (line_of script n ≡ decimal n.number ++ more)
begins script n = (spaced (told_words script n) ++ 10 ∷ [], append_assoc (decimal n.number) (spaced (told_words script n)) (10 ∷ []))

-- ---- the second word

regrouped : (number task rest more : List ℕ) → ((number ++ 32 ∷ (task ++ 32 ∷ rest)) ++ 10 ∷ []) ++ more ≡ number ++ 32 ∷ (task ++ 32 ∷ (rest ++ 10 ∷ more))
regrouped number task rest more = simp append_assoc refl

one_word : (word rest : List ℕ) → list_all is_dense_byte word ≡ true → words_of (word ++ 32 ∷ rest) ≡ word ∷ words_of rest
one_word word rest dense = slice_split_at (λ b. b == 32) word 32 rest (without is_dense_byte (λ b. b == 32) no_space word dense) refl

-- it names its task after its number, whatever stands behind the line
pub names_task : (script : Script) → IsScript script → (n : Entry) → IsWellFormed script n → (more : List ℕ)
    → (others : List (List ℕ)) × (words_of (line_of script n ++ more) ≡ decimal n.number ∷ task_word script n.task ∷ others)
names_task script is n has more =
    let dense = all_dense script is n has in
    let number : List ℕ = decimal n.number in
    let task : List ℕ = task_word script n.task in
    let rest : List ℕ = kind_word n.kind n.value ++ spaced (operands script n.kind n ++ (boost_words script n.boost ++ reply_words n.reply)) in
    let second = one_word task (rest ++ 10 ∷ more) (left _ _ (right _ _ dense)) in
    (words_of (rest ++ 10 ∷ more), ap words_of (regrouped number task rest more) ∙ one_word number (task ++ 32 ∷ (rest ++ 10 ∷ more)) (left _ _ dense) ∙ ap (λ words. number ∷ words) second)
