-- The end of a line, which tells the boost and the answer.
use Rattle.std.specs.Prelude.{ℕ, Bool, not, ◌&&◌, List, [], ◌∷◌, Option, Some, None, if◌then◌else◌, ◌==◌, bytes_eq, codes}
use Rattle.std.specs.List.{list_all, slice_split}
use Rattle.rt_base.specs.Script.{Script}
use Rattle.rt_base.specs.declared.id.TaskId.{TaskId}
use Rattle.rt_base.specs.declared.limits.TheConstants.{MAX_PRIO}
use Rattle.rt_base.specs.declared.reply.Reply.{Reply}
use Rattle.rt_events.specs.reading.Operands.{first, at_end}
use Rattle.rt_events.specs.reading.Spelling.{reply_in}
use Rattle.rt_script.specs.Names.{task_named}
use Rattle.rt_script.specs.Words.{◌>>=◌, only_if, number_upto}

-- no `=`, and no `>`: a word that begins neither a boost nor an answer
abbrev pub is_plain : List ℕ → Bool
is_plain word = list_all (λ b. not (b == 61) && not (b == 62)) word

-- the words before the first that isn't plain, and that one with those behind it
abbrev pub plain_front : List (List ℕ) → List (List ℕ)
plain_front [] = []
plain_front (w ∷ ws) = if is_plain w then w ∷ plain_front ws else []

abbrev pub plain_rest : List (List ℕ) → List (List ℕ)
plain_rest [] = []
plain_rest (w ∷ ws) = if is_plain w then plain_rest ws else w ∷ ws

-- a task and a priority
abbrev pub boost_parts : Script → List (List ℕ) → Option (TaskId × ℕ)
boost_parts script (task ∷ prio ∷ []) = do
  t ← task_named script task
  p ← number_upto MAX_PRIO prio
  Some (t, p)
boost_parts script _ = None

-- a `=` stands between them
abbrev pub boost_in : Script → List ℕ → Option (TaskId × ℕ)
boost_in script word = boost_parts script (slice_split (λ b. b == 61) word)

-- an arrow and an answer, or nothing
abbrev pub answer_in : List (List ℕ) → Option (Option Reply)
answer_in [] = Some None
answer_in (w ∷ ws) = only_if (bytes_eq w (codes "->")) (first reply_in (λ reply. at_end (Some reply)) ws)

-- a boost and an answer, each of which may be there or not
abbrev pub tail_in : Script → List (List ℕ) → Option (Option (TaskId × ℕ) × Option Reply)
tail_in script [] = Some (None, None)
tail_in script (w ∷ ws) = if bytes_eq w (codes "->")
    then (answer_in (w ∷ ws) >>= λ reply. Some (None, reply))
    else (boost_in script w >>= λ boost. answer_in ws >>= λ reply. Some (Some boost, reply))
