-- Steps that may be at fault.
use Rattle.std.specs.Prelude.{Bool, Option, Some, None, Result, Ok, Err, if◌then◌else◌}
use Rattle.rt_script.specs.declared.fault.Why.{Why}

-- what is judged: it is fine, and gives something, or it is at fault
abbrev pub Judged : Type 0 → Type 0
Judged A = Result A Why

-- a step that needs what another gives; the first fault stands
infixl 10 ◌>>=◌
abbrev pub ◌>>=◌ : {A B : Type 0} → Judged A → (A → Judged B) → Judged B
(Ok a) >>= f = f a
(Err why) >>= f = Err why

-- what is there, and this fault where nothing is
abbrev pub need : {A : Type 0} → Why → Option A → Judged A
need why None = Err why
need why (Some a) = Ok a

-- this fault, unless the test is passed
abbrev pub provided : {A : Type 0} → Bool → Why → Judged A → Judged A
provided passed why judged = if passed then judged else Err why
