-- What a thread is at a reader/writer lock, and how one event turns that, with the lock's reader part.
use Rattle.std.proofs.Common.{◌≡◌, ℕ, ◌+◌, ◌-◌, ◌≤◌, Bool, true, false, cond, not, ◌&&◌, ◌||◌, refl, sym, ap, ◌∙◌, arith, Option}
use Rattle.std.proofs.lemmas.Bool.{or_right}
use Rattle.rt_base.specs.declared.call.Call.{Call}
use Rattle.rt_base.specs.declared.id.LockId.{LockId}
use Rattle.rt_model.specs.declared.hold.Hold.{Hold}
use Rattle.rt_model.specs.declared.phase.Phase.{Phase}
use Rattle.rt_model.specs.declared.phase.Phase.TheVariants as phases
use Rattle.rt_model.specs.declared.reader_cell.ReaderCell.{ReaderCell}
use Rattle.rt_model.specs.Parts.{ThreadPart, call_of, hold_of, kind_of, has_readers}
use Rattle.rt_model.specs.Choice.{present_lock, is_on}
use Rattle.rt_model.specs.steps.Readers.{with_reader, without_reader, unbiased, can_write, with_writer}
use Rattle.rt_model.specs.laws.Owners.{has_inner}
use Rattle.rt_model.specs.laws.Readers.{is_unbiased, has_come, has_gone}
use Rattle.rt_model.proofs.Numbers.{same_number}

-- ---- looks

-- what its call is on the lock: on its way through the inner lock, with the bias removed, a reader more or less than it holds; whether
-- the lock is of a reader/writer kind, what it holds of it, and how many answers it has
pub record Look : Type 0 where
  pub inside : Bool
  pub closing : Bool
  pub coming : ℕ
  pub going : ℕ
  pub rw : Bool
  pub hold : Hold
  pub answered : ℕ

-- in this phase of this call, which is on the lock, or isn't
abbrev pub look_of : Phase → Option Call → Bool → Bool → Hold → ℕ → Look
look_of phase call on rw hold answered = record {
  inside = has_inner phase && on;
  closing = is_unbiased phase && on;
  coming = cond (has_come phase call && on) 1 0;
  going = cond (has_gone phase && on) 1 0;
  rw = rw;
  hold = hold;
  answered = answered;
}

abbrev pub look : ThreadPart → LockId → Look
look thread l = look_of thread.phase (call_of thread) (is_on (present_lock thread) l) (has_readers (kind_of thread l)) (hold_of thread l) thread.answered

-- one with no call on its way
abbrev pub plain_look : Bool → Hold → ℕ → Look
plain_look rw hold answered = record { inside = false; closing = false; coming = 0; going = 0; rw = rw; hold = hold; answered = answered }

-- the thread's writer is in; it has removed the bias; it has the owner part; how many readers it is
abbrev pub writing : Look → Bool
writing k = k.rw && k.hold.owns && not k.inside

abbrev pub off : Look → Bool
off k = k.closing || writing k

abbrev pub has_part : Look → Bool
has_part k = k.hold.owns || k.inside

abbrev pub reading : Look → ℕ
reading k = k.hold.reads + k.coming - k.going

-- ---- looks with no call on its way

-- a thread in this phase is in no step of a reader or a writer
abbrev pub is_plain : Phase → Bool
is_plain phases.ReadIn = false
is_plain phases.Unbias = false
is_plain phases.WTry = false
is_plain phases.WWait = false
is_plain phases.Release = false
is_plain phases.WakeWriter = false
is_plain _ = true

pub plain-phase : (phase : Phase) (call : Option Call) (on rw : Bool) (hold : Hold) (answered : ℕ) → is_plain phase ≡ true → look_of phase call on rw hold answered ≡ plain_look rw hold answered
plain-phase phases.ReadIn call on rw hold answered is = cc
plain-phase phases.Unbias call on rw hold answered is = cc
plain-phase phases.WTry call on rw hold answered is = cc
plain-phase phases.WWait call on rw hold answered is = cc
plain-phase phases.Release call on rw hold answered is = cc
plain-phase phases.WakeWriter call on rw hold answered is = cc
plain-phase _ call on rw hold answered is = refl

-- nor is its call on another lock
and_none : (b : Bool) → (b && false) ≡ false
and_none true = refl
and_none false = refl

pub plain-elsewhere : (phase : Phase) (call : Option Call) (rw : Bool) (hold : Hold) (answered : ℕ) → look_of phase call false rw hold answered ≡ plain_look rw hold answered
plain-elsewhere phase call rw hold answered =
    λ i. record {
      inside = and_none (has_inner phase) i;
      closing = and_none (is_unbiased phase) i;
      coming = cond (and_none (has_come phase call) i) 1 0;
      going = cond (and_none (has_gone phase) i) 1 0;
      rw = rw;
      hold = hold;
      answered = answered;
    }

-- ---- turns

-- what a lawful state says of a look of one of its threads and the lock's reader part
pub record Facts (b : Look) (cell : ReaderCell) : Type 0 where
  pub bias : has_part b ≡ true → cell.bias ≡ not (off b)
  pub writer : has_part b ≡ true → cell.writer ≡ writing b
  pub nobody : cell.bias ≡ true → cell.writer ≡ false
  pub alone : cell.writer ≡ true → cell.count ≡ 0
  pub most : reading b ≤ cell.count
  pub gone : b.going ≤ b.hold.reads
  pub few : b.hold.reads ≤ b.answered

-- the flags say as much as before, or what the thread is itself, which has the owner part
pub data Flags (b a : Look) (cell left : ReaderCell) : Type 0 where
  as_were : off a ≡ off b → writing a ≡ writing b → left.bias ≡ cell.bias → left.writer ≡ cell.writer → Flags b a cell left
  its_own : has_part b ≡ true → left.bias ≡ not (off a) → left.writer ≡ writing a → Flags b a cell left

-- the event's own thread was b, and is a; the reader part was cell, and is left
pub record Turn (b a : Look) (cell left : ReaderCell) : Type 0 where
  pub flags : Flags b a cell left
  pub count : left.count + reading b ≡ cell.count + reading a
  pub alone : left.writer ≡ true → left.count ≡ 0
  pub gone : a.going ≤ a.hold.reads
  pub few : a.hold.reads ≤ a.answered

-- the thread is as much of a writer and of readers as it was
pub record Quiet (b a : Look) : Type 0 where
  pub closed : off a ≡ off b
  pub writes : writing a ≡ writing b
  pub reads : reading a ≡ reading b
  pub gone : a.going ≤ a.hold.reads
  pub few : a.hold.reads ≤ a.answered

-- then the reader part may stay
pub quiet-turn : (b a : Look) (cell : ReaderCell) → Facts b cell → Quiet b a → Turn b a cell cell
quiet-turn b a cell facts quiet =
    record { flags = as_were quiet.closed quiet.writes refl refl; count = ap (λ n. cell.count + n) (sym quiet.reads); alone = facts.alone; gone = quiet.gone; few = quiet.few }

-- with no call on its way it may hold the lock otherwise, as long as it holds as much for reading, and the lock is of another kind
pub plain-quiet : (rw : Bool) (was hold : Hold) (answered more : ℕ) → rw && hold.owns && true ≡ rw && was.owns && true → hold.reads ≡ was.reads → was.reads ≤ answered → answered ≤ more
    → Quiet (plain_look rw was answered) (plain_look rw hold more)
plain-quiet rw was hold answered more owns reads few lt = record { closed = owns; writes = owns; reads = omega (arith, reads); gone = omega arith; few = omega (arith, reads, few, lt) }

-- ---- one by one

-- a thread that is on its way through the inner lock, and holds the lock for writing or not, isn't in
pub out : (rw owns : Bool) → (rw && owns && false) ≡ false
out true true = refl
out true false = refl
out false owns = refl

unowned : (rw owns inside : Bool) → owns ≡ false → (rw && owns && not inside) ≡ false
unowned true true inside is = cc
unowned true false inside is = refl
unowned false owns inside is = refl

module _ (rw : Bool) (hold : Hold) (answered : ℕ) where
  -- no call on its way; one that is inside, with this many readers come; one that has removed the bias
  abbrev plain : Look
  plain = plain_look rw hold answered

  abbrev inner : ℕ → Look
  inner coming = record plain { inside = true; coming = coming }

  abbrev closed : Look
  closed = record plain { inside = true; closing = true }

  -- with this hold after an answer
  abbrev then : Hold → Look
  then left = plain_look rw left (answered + 1)

  -- it gets the inner lock, which it doesn't hold
  pub got-quiet : hold.owns ≡ false → hold.reads ≤ answered → Quiet plain (inner 0)
  got-quiet unheld few = record { closed = out rw hold.owns ∙ sym (unowned rw hold.owns false unheld); writes = out rw hold.owns ∙ sym (unowned rw hold.owns false unheld); reads = refl; gone = omega arith; few = few }

  -- it has gone through it, and holds the lock for reading as often as it was a reader by that
  pub released-quiet : (coming : ℕ) (left : Hold) → left.owns ≡ false → left.reads ≡ hold.reads + coming → left.reads ≤ answered + 1 → Quiet (inner coming) (then left)
  released-quiet coming left unheld reads few =
      let none : rw && left.owns && true ≡ rw && hold.owns && false = unowned rw left.owns false unheld ∙ sym (out rw hold.owns) in
      record { closed = none; writes = none; reads = omega (arith, reads); gone = omega arith; few = few }

  -- the last reader has woken the writer
  pub woken-quiet : hold.reads ≤ answered → Quiet (record plain { going = 1 }) (then (record hold { reads = hold.reads - 1 }))
  woken-quiet few = record { closed = refl; writes = refl; reads = omega arith; gone = omega arith; few = omega (arith, few) }

  -- a writer sleeps
  pub slept-quiet : hold.reads ≤ answered → Quiet closed closed
  slept-quiet few = record { closed = refl; writes = refl; reads = refl; gone = omega arith; few = few }

  module _ (cell : ReaderCell) where
    -- a reader gets in
    pub read-turn : cell.writer ≡ false → Facts plain cell → Turn plain (then (record hold { reads = hold.reads + 1 })) cell (with_reader cell)
    read-turn can facts = record { flags = as_were refl refl refl refl; count = omega arith; alone = λ is. absurd (both is); gone = omega arith; few = omega (arith, facts.few) }
      where
        both : cell.writer ≡ true → ⊥
        both is = cc

    -- one that has the inner lock
    pub let_in-turn : Facts (inner 0) cell → Turn (inner 0) (inner 1) cell (with_reader cell)
    let_in-turn facts = record { flags = as_were refl refl refl refl; count = omega arith; alone = λ is. absurd (both is); gone = omega arith; few = facts.few }
      where
        both : cell.writer ≡ true → ⊥
        both is = let none : cell.writer ≡ false = facts.writer (or_right hold.owns true refl) ∙ out rw hold.owns in cc

    -- it leaves, and is answered, or goes on to wake the writer
    pub out-turn : 1 ≤ hold.reads → Facts plain cell → Turn plain (then (record hold { reads = hold.reads - 1 })) cell (without_reader cell)
    out-turn held facts = record { flags = as_were refl refl refl refl; count = omega (arith, held, facts.most); alone = λ is. omega (arith, facts.alone is); gone = omega arith; few = omega (arith, facts.few) }

    pub last-turn : 1 ≤ hold.reads → Facts plain cell → Turn plain (record plain { going = 1 }) cell (without_reader cell)
    last-turn held facts = record { flags = as_were refl refl refl refl; count = omega (arith, held, facts.most); alone = λ is. omega (arith, facts.alone is); gone = omega (arith, held); few = facts.few }

    -- a writer on its way removes the bias
    pub unbias-turn : Facts (inner 0) cell → Turn (inner 0) closed cell (unbiased cell)
    unbias-turn facts = record { flags = its_own (or_right hold.owns true refl) refl (facts.writer (or_right hold.owns true refl)); count = refl; alone = facts.alone; gone = omega arith; few = facts.few }

    -- the lock is opened again, with one reader more or none
    pub open-turn : (b : Look) (coming : ℕ) (left : ReaderCell) → b.hold ≡ hold → b.coming ≡ 0 → b.going ≡ 0 → b.answered ≡ answered → has_part b ≡ true → left.bias ≡ true → left.writer ≡ false → left.count ≡ cell.count + coming
        → Facts b cell → Turn b (inner coming) cell left
    open-turn b coming left same none also answers owns bias writer count facts = record {
      flags = its_own owns (bias ∙ sym (ap not (out rw hold.owns))) (writer ∙ sym (out rw hold.owns));
      count = let reads : b.hold.reads ≡ hold.reads = ap (λ (h : Hold). h.reads) same in omega (arith, reads, none, also, count);
      alone = λ is. absurd (both is);
      gone = omega arith;
      few = let reads : b.hold.reads ≡ hold.reads = ap (λ (h : Hold). h.reads) same in omega (arith, reads, answers, facts.few);
    }
      where
        both : left.writer ≡ true → ⊥
        both is = cc

-- a writer gets in, where nobody reads
pub written-turn : (rw : Bool) (hold : Hold) (answered : ℕ) (cell : ReaderCell) → rw ≡ true → can_write cell ≡ true → Facts (closed rw hold answered) cell
    → Turn (closed rw hold answered) (then rw hold answered (record hold { owns = true })) cell (with_writer cell)
written-turn false hold answered cell is can facts = cc
written-turn true hold answered cell is can facts = record {
  flags = its_own (or_right hold.owns true refl) (facts.bias (or_right hold.owns true refl)) refl;
  count = omega arith;
  alone = λ set. same_number cell.count 0 can;
  gone = omega arith;
  few = omega (arith, facts.few);
}
