-- Words of scripts, journals and reports.
use Rattle.std.specs.Prelude.{ℕ, List, ◌∷◌, codes, flat_map}
use Rattle.rt_base.specs.declared.state.TaskState.{TaskState}
use Rattle.rt_base.specs.declared.state.TaskState.TheVariants as states

-- each word after a space
abbrev pub spaced : List (List ℕ) → List ℕ
spaced words = flat_map (λ word. 32 ∷ word) words

abbrev pub state_word : TaskState → List ℕ
state_word states.Running = codes "R"
state_word states.Interruptible = codes "S"
state_word states.Uninterruptible = codes "D"
state_word states.LockWait = codes "L"
