-- The canonical text of a script is read as that script, and has a length that a reader takes.
use Rattle.std.proofs.Common.{◌≡◌, ℕ, true, false, List, [], ◌∷◌, ◌++◌, map, filter, flat_map, Ok, refl, sym, ap, subst, ◌∙◌, append-nil, append_assoc}
use Rattle.std.specs.Prelude.{codes}
use Rattle.std.proofs.lemmas.List.Concat.{flat_map_single}
use Rattle.rt_base.specs.declared.kind.Kind.{Kind}
use Rattle.rt_base.specs.Script.{Script, TaskLine, LockLine, locks_of_lines, IsScript}
use Rattle.rt_script.specs.Adding.{empty_script}
use Rattle.rt_script.specs.Canonical.{cpus_line_text, task_line_text, lock_line_text, call_line_texts, pick_line_text, lined_locks, canonical_lines, canonical}
use Rattle.rt_script.specs.Grammar.{after_lines, script_of_lines, script_of}
use Rattle.rt_script.specs.Lines.{SoFar}
use Rattle.rt_script.proofs.WrittenLines.{LeadTo, text_lines-lines, reads_then}
use Rattle.rt_script.proofs.WrittenNames.{uncalled}
use Rattle.rt_script.proofs.WrittenLocks.{has_line, line_text, written_locks}
use Rattle.rt_script.proofs.WrittenSize.{lines_fit, printable_lines}
use Rattle.rt_script.proofs.WrittenStages.{begun, empty, of_tasks, of_locks, of_calls, of_picks, reads_cpus, reads_tasks, reads_locks, reads_calls, reads_picks}

-- these lines, with `go` after them, end as that script
Ends : SoFar → List (List ℕ) → Script → Type 0
Ends a lines s = (n : ℕ) → after_lines n a (lines ++ [] ∷ []) ≡ Ok s

ends_go : (s : Script) → Ends (record { script = s; begun = true }) (codes "go" ∷ []) s
unfolding Ends after_lines
ends_go s n = refl

ends_then : (a b : SoFar) (lines more : List (List ℕ)) (s : Script) → LeadTo a lines b → Ends b more s → Ends a (lines ++ more) s
unfolding Ends LeadTo
ends_then a b lines more s first next n =
    let one = first n (more ++ [] ∷ []) in
    ap (after_lines n a) (append_assoc lines more ([] ∷ [])) ∙ one.1 ∙ next one.0

-- what the lines between the header and `go` lead to
reads_body : (s : Script) → IsScript s → (lines : List (List ℕ × Kind)) → s.locks ≡ locks_of_lines s.cpus lines
    → Ends (record { script = empty_script; begun = false }) (cpus_line_text s.cpus ∷ map task_line_text s.tasks ++ map lock_line_text (lined_locks s) ++ flat_map (call_line_texts s) s.tasks ++ map (pick_line_text s) s.picks ++ codes "go" ∷ []) s
reads_body s h lines whole =
    let picks : LeadTo (begun (of_picks s [])) (map (pick_line_text s) s.picks) (begun s) = subst (λ (ls : List (List ℕ)). LeadTo (begun (of_picks s [])) ls (begun s)) (flat_map_single (pick_line_text s) s.picks) (reads_picks s h) in
    let calls : LeadTo (begun (of_calls s (map uncalled s.tasks))) (flat_map (call_line_texts s) s.tasks) (begun (of_picks s [])) =
    subst (λ (ts : List TaskLine). LeadTo (begun (of_calls s (map uncalled s.tasks))) (flat_map (call_line_texts s) s.tasks) (begun (of_calls s ts))) (append-nil s.tasks) (reads_calls s h) in
    let text : flat_map (λ line. line_text line ∷ []) lines ≡ map lock_line_text (lined_locks s) = sym (ap (λ (ls : List LockLine). map lock_line_text (filter has_line ls)) whole ∙ written_locks s.cpus lines h.cpus.0) in
    let locks : LeadTo (begun (of_tasks s s.tasks)) (map lock_line_text (lined_locks s)) (begun (of_calls s (map uncalled s.tasks))) =
    subst (λ (ls : List LockLine). LeadTo (begun (of_tasks s s.tasks)) (map lock_line_text (lined_locks s)) (begun (record { cpus = s.cpus; tasks = map uncalled s.tasks; locks = ls; picks = [] }))) (sym whole)
    (subst (λ (ls : List (List ℕ)). LeadTo (begun (of_tasks s s.tasks)) ls (begun (of_locks s lines))) text (reads_locks s h lines whole)) in
    let tasks : LeadTo (begun (empty s.cpus)) (map task_line_text s.tasks) (begun (of_tasks s s.tasks)) = subst (λ (ls : List (List ℕ)). LeadTo (begun (empty s.cpus)) ls (begun (of_tasks s s.tasks))) (flat_map_single task_line_text s.tasks) (reads_tasks s h) in
    let to_tasks = reads_then _ _ _ (cpus_line_text s.cpus ∷ []) (map task_line_text s.tasks) (reads_cpus s h) tasks in
    let to_locks = reads_then _ _ _ (cpus_line_text s.cpus ∷ map task_line_text s.tasks) (map lock_line_text (lined_locks s)) to_tasks locks in
    let to_calls = reads_then _ _ _ ((cpus_line_text s.cpus ∷ map task_line_text s.tasks) ++ map lock_line_text (lined_locks s)) (flat_map (call_line_texts s) s.tasks) to_locks calls in
    let to_picks = reads_then _ _ _ ((cpus_line_text s.cpus ∷ map task_line_text s.tasks) ++ map lock_line_text (lined_locks s) ++ flat_map (call_line_texts s) s.tasks) (map (pick_line_text s) s.picks) to_calls picks in
    ends_then _ _ ((cpus_line_text s.cpus ∷ map task_line_text s.tasks) ++ map lock_line_text (lined_locks s) ++ flat_map (call_line_texts s) s.tasks ++ map (pick_line_text s) s.picks) (codes "go" ∷ []) s to_picks (ends_go s)

pub parses : (s : Script) → IsScript s → script_of (canonical s) ≡ Ok s
unfolding script_of Ends
parses s h = ap script_of_lines (text_lines-lines (canonical_lines s) (printable_lines (canonical_lines s) (lines_fit s h))) ∙ reads_body s h h.whole.0 h.whole.1 2
