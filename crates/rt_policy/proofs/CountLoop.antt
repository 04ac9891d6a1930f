-- What the loops that count a run keep.
use Rattle.std.proofs.Common.{◌≡◌, ℕ, ◌+◌, ◌<◌, ◌≤◌, List, ◌++◌, length, Option, Some, None, IfSome, sym, ◌∙◌, subst, append_assoc, append-nil, length-append, arith}
use Rattle.rt_base.specs.Script.{Script}
use Rattle.rt_base.specs.declared.ended.Ended.{Ended}
use Rattle.rt_base.specs.declared.id.TaskId.{TaskId}
use Rattle.rt_model.specs.declared.event.Event.{Event}
use Rattle.rt_model.specs.State.{State}
use Rattle.rt_model.specs.laws.Shape.{IsOf}
use Rattle.rt_model.specs.Run.{ended_of}
use Rattle.rt_model.specs.Order.{Played, chosen, then_play}
use Rattle.rt_model.proofs.laws.Shape.{IsOf-threads}
use Rattle.rt_policy.specs.Counts.{Counted, AreCountsOf, AreAtMost}
use Rattle.rt_policy.specs.Moving.{MovesTo, made_of}
use Rattle.rt_policy.specs.Turns.{TellsLimit, by_picks, chosen_after}
use Rattle.rt_policy.proofs.Going.{Going, begins, moves_on}
use Rattle.rt_policy.proofs.Turns.{cut_short}

-- these events are made and counted
pub record IsCounted (made0 made : ℕ) (c0 c : Counted) (done : List Event) : Type 0 where
  pub made_is : made ≡ made0 + length done
  pub counts : (events : List Event) → AreCountsOf c0 events → AreCountsOf c (events ++ done)

-- a run is being made and counted from this core and these counts on
pub record Counting (s0 : State) (whole rest : Played) (s : State) (made0 made : ℕ) (last : Option TaskId) (c0 c : Counted) : Type 0 where
  pub going : Going s0 whole rest s (IsCounted made0 made c0 c)
  pub kept : (script : Script) → IsOf script s0 → IsOf script s
  pub last_in : IfSome last (λ u. u.0 < length s.threads)
  pub few : AreAtMost made c

-- at the start
pub counting_begins : (whole : Played) (s : State) (made : ℕ) (last : Option TaskId) (c : Counted) → IfSome last (λ u. u.0 < length s.threads) → AreAtMost made c → Counting s whole whole s made made last c c
counting_begins whole s made last c last_in few = record {
  going = begins s whole (record { made_is = omega arith; counts = λ events h. subst (AreCountsOf c) (sym (append-nil events)) h });
  kept = λ script is. is;
  last_in = last_in;
  few = few;
}

-- who moved last is a task of the next state
last_within : (s s' : State) (t : TaskId) (next : Option Event) (last last' : Option TaskId) → length s'.threads ≡ length s.threads → t.0 < length s.threads → MovesTo t next s last s' last' → IfSome last (λ u. u.0 < length s.threads) → IfSome last' (λ u. u.0 < length s'.threads)
last_within s s' t None last last' same lt moves last_in = rw (moves.1, same) last_in
last_within s s' t (Some e) last last' same lt moves last_in = rw (moves.1, same) lt

-- a task's move
pub counting_moves : {s0 : State} {whole rest : Played} {s : State} {made0 made : ℕ} {last : Option TaskId} {c0 c : Counted} (script : Script) (cont : State → Option TaskId → Played) (t : TaskId) (next : Option Event) (s' : State) (made' : ℕ) (last' : Option TaskId) (c' : Counted)
    → IsOf script s0 → t.0 < length s.threads → rest ≡ then_play cont s last t next → Counting s0 whole rest s made0 made last c0 c
    → MovesTo t next s last s' last' → made' ≡ made + length (made_of next) → ((events : List Event) → AreCountsOf c events → AreCountsOf c' (events ++ made_of next)) → AreAtMost made' c' → ((k : Script) → IsOf k s → IsOf k s')
    → Counting s0 whole (cont s' last') s' made0 made' last' c0 c'
counting_moves {s0} {whole} {rest} {s} {made0} {made} {last} {c0} {c} script cont t next s' made' last' c' is0 lt is counting moves made_is counts few kept = record {
  going = moves_on cont s last s' last' t next moves tells (subst (λ (r : Played). Going s0 whole r s (IsCounted made0 made c0 c)) is counting.going);
  kept = λ k is_of. kept k (counting.kept k is_of);
  last_in = last_within s s' t next last last' (IsOf-threads script s' (kept script (counting.kept script is0)) ∙ sym (IsOf-threads script s (counting.kept script is0))) lt moves counting.last_in;
  few = few;
}
  where
    tells : (done : List Event) → IsCounted made0 made c0 c done → IsCounted made0 made' c0 c' (done ++ made_of next)
    tells done told = record {
      made_is = omega (arith, told.made_is, made_is, length-append done (made_of next));
      counts = λ events h. subst (AreCountsOf c') (append_assoc events done (made_of next)) (counts (events ++ done) (told.counts events h));
    }

-- a move makes one event or none
pub one_or_none : (next : Option Event) → length (made_of next) ≤ 1
one_or_none None = omega arith
one_or_none (Some e) = omega arith

-- how the run ended, of what the choice made after the picks
pub limit_told : (script : Script) (s0 : State) (turns : ℕ) (s : State) (last : Option TaskId) (left : State) (ended : Ended)
    → s ≡ (by_picks script s0).state → last ≡ (by_picks script s0).last → left ≡ (chosen turns s last).state → ended ≡ ended_of left → TellsLimit turns (chosen_after script s0 turns) ended
limit_told script s0 turns s last left ended leaves moved left_is ends_so =
    let same : chosen turns s last ≡ chosen_after script s0 turns = λ i. chosen turns (leaves i) (moved i) in
    subst (λ (p : Played). TellsLimit turns p ended) same (cut_short turns s last left ended ends_so left_is)
