use Rattle.std.proofs.Common.{rules, ◌≡◌, ℕ, ◌+◌, ◌≤◌, List, ◌++◌, length, take, drop, sym, ap, ◌∙◌, arith, take_at, take-append-drop, drop-drop, length-take-le}
use Rattle.rt_base.proofs.source.PlainSourceSource.read.Goals as goal

-- what stands from a place on is what was copied from there, and the rest
from_place : (bytes left copied buf : List ℕ) (at n : ℕ) → left ≡ drop at bytes → copied ≡ take n left → n ≤ length left → drop at bytes ≡ take n (copied ++ drop n buf) ++ drop (at + n) bytes
from_place bytes left copied buf at n is_left is_copied within =
    let all_copied : length copied ≡ n = ap length is_copied ∙ length-take-le n left within in
    let first : take n (copied ++ drop n buf) ≡ take n (drop at bytes) = take_at copied (drop n buf) n all_copied ∙ (is_copied ∙ ap (take n) is_left) in
    sym (ap (λ xs. xs ++ drop (at + n) bytes) first ∙ (ap (λ xs. take n (drop at bytes) ++ xs) (sym (drop-drop n at bytes)) ∙ take-append-drop n (drop at bytes)))

pub returns-clause-taken : goal.returns-clause-taken
returns-clause-taken c =
    let bytes = c.self.inside.bytes.items in
    let at = c.self.inside.at in
    let n = c.min-count.result in
    sym c.self.view_is ∙ from_place bytes c.split_at.result.1.now c.copy_from_slice.new.self c.args.buf.now at n (search rules) c.copy_from_slice.ensures.after (omega arith)
