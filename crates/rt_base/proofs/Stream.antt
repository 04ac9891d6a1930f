-- One write to a writer of the system, and a flush after it.
use Rattle.std.proofs.Common.{ℕ, List, Option, Some, None, ◌∙◌, take, drop, take-append-drop}
use Rattle.std.specs.Io.KnownBytes.{Appends, Keeps}
use Rattle.rt_base.specs.Stream.{AppendsKnownPrefix}

-- what a writer keeps stays appended
Appends-kept : (before mid after : Option (List ℕ)) (bytes : List ℕ) → Appends before mid bytes → Keeps mid after → Appends before after bytes
Appends-kept None mid after bytes appends keeps = tt
Appends-kept (Some xs) None after bytes appends keeps = absurd appends
Appends-kept (Some xs) (Some ys) None bytes appends keeps = absurd keeps
Appends-kept (Some xs) (Some ys) (Some zs) bytes appends keeps = keeps ∙ appends

-- what a write took is a prefix, whatever came of the flush
pub AppendsKnownPrefix-kept : (before mid after : Option (List ℕ)) (bytes : List ℕ) (n : ℕ) → Appends before mid (take n bytes) → Keeps mid after → AppendsKnownPrefix before after bytes
AppendsKnownPrefix-kept before mid after bytes n appends keeps = (take n bytes, drop n bytes, take-append-drop n bytes, Appends-kept before mid after (take n bytes) appends keeps)
