-- One read or write after another.
use Rattle.std.proofs.Common.{ℕ, List, [], ◌++◌, Option, Some, None, Result, Ok, Err, IsErr, OnErr, refl, sym, ap, ◌∙◌, subst, append_assoc, append-nil, arith}
use Rattle.rt_base.specs.declared.fault.Failed.{Failed}
use Rattle.rt_base.specs.Outside.{Takes, Appends, AppendsPrefix, Writes}

-- what holds, holds where there was an error
pub on_err : {T E P : Type 0} (result : Result T E) → P → OnErr result P
on_err (Ok x) p = tt
on_err (Err e) p = p

pub Takes-nothing : (left : Option (List ℕ)) → Takes left [] left
Takes-nothing None = tt
Takes-nothing (Some rest) = (rest, refl, refl)

pub Appends-nothing : (held : Option (List ℕ)) → Appends held [] held
Appends-nothing None = tt
Appends-nothing (Some bytes) = (bytes, refl, sym (append-nil bytes))

pub Appends-then : (before mid after : Option (List ℕ)) (xs ys : List ℕ) → Appends before xs mid → Appends mid ys after → Appends before (xs ++ ys) after
Appends-then before mid None xs ys first second = tt
Appends-then before mid (Some bytes) xs ys first second =
    let only_xs = subst (λ (held : Option (List ℕ)). Appends before xs held) second.1 first in
    (only_xs.0, only_xs.1, second.2 ∙ (ap (λ held. held ++ ys) only_xs.2 ∙ append_assoc only_xs.0 xs ys))

-- a prefix of the first bytes is a prefix of all
pub AppendsPrefix-more : (before after : Option (List ℕ)) (xs ys : List ℕ) → AppendsPrefix before xs after → AppendsPrefix before (xs ++ ys) after
AppendsPrefix-more before after xs ys part =
    (part.0, part.1 ++ ys, sym (append_assoc part.0 part.1 ys) ∙ ap (λ bytes. bytes ++ ys) part.2, part.3)

-- the first bytes and a prefix of the others are a prefix of all
pub AppendsPrefix-then : (before mid after : Option (List ℕ)) (xs ys : List ℕ) → Appends before xs mid → AppendsPrefix mid ys after → AppendsPrefix before (xs ++ ys) after
AppendsPrefix-then before mid after xs ys first part =
    (xs ++ part.0, part.1, append_assoc xs part.0 part.1 ∙ ap (λ rest. xs ++ rest) part.2, Appends-then before mid after xs part.0 first part.3)

-- a call that goes on from one that wrote it all, and writes no more itself
pub Writes-as_ok : {T U : Type 0} {held_before held_after : Option (List ℕ)} {faults_before faults_after : ℕ} {bytes : List ℕ} {x : T} {y : U}
    → Writes {T = T} (Ok x) held_before held_after faults_before faults_after bytes → Writes {T = U} (Ok y) held_before held_after faults_before faults_after bytes
Writes-as_ok w = record { whole = w.whole; no_fault = w.no_fault; part = tt; cause = tt; count = w.count }

-- a call that fails where the one in it failed
pub Writes-as_err : {T U : Type 0} {held_before held_after : Option (List ℕ)} {faults_before faults_after : ℕ} {bytes : List ℕ} {e : Failed} {result : Result U Failed}
    → Writes {T = T} (Err e) held_before held_after faults_before faults_after bytes → IsErr result → Writes result held_before held_after faults_before faults_after bytes
Writes-as_err {result = Ok x} w err = cc err
Writes-as_err {result = Err d} w err = record { whole = tt; no_fault = tt; part = w.part; cause = w.cause; count = w.count }

-- some bytes, and after them more
pub Writes-then : {T U : Type 0} {held_before held_mid held_after : Option (List ℕ)} {faults_before faults_mid faults_after : ℕ} {xs ys : List ℕ} {x : T} {result : Result U Failed}
    → Writes {T = T} (Ok x) held_before held_mid faults_before faults_mid xs → Writes result held_mid held_after faults_mid faults_after ys → Writes result held_before held_after faults_before faults_after (xs ++ ys)
Writes-then {held_before = before} {held_mid = mid} {held_after = after} {xs = xs} {ys = ys} {result = Ok y} first second =
    record { whole = Appends-then before mid after xs ys first.whole second.whole; no_fault = second.no_fault ∙ first.no_fault; part = tt; cause = tt; count = omega arith }
Writes-then {held_before = before} {held_mid = mid} {held_after = after} {xs = xs} {ys = ys} {result = Err d} first second =
    record { whole = tt; no_fault = tt; part = AppendsPrefix-then before mid after xs ys first.whole second.part; cause = omega arith; count = omega arith }

-- some bytes, and after a fault no more: as at the exit of a `?`
pub Writes-stopped : {T U : Type 0} {held_before held_after : Option (List ℕ)} {faults_before faults_after : ℕ} {xs : List ℕ} {e : Failed} {result : Result U Failed} (ys : List ℕ)
    → Writes {T = T} (Err e) held_before held_after faults_before faults_after xs → IsErr result → Writes result held_before held_after faults_before faults_after (xs ++ ys)
Writes-stopped {xs = xs} {result = Ok y} ys first err = cc err
Writes-stopped {held_before = before} {held_after = after} {xs = xs} {result = Err d} ys first err =
    record { whole = tt; no_fault = tt; part = AppendsPrefix-more before after xs ys first.part; cause = first.cause; count = first.count }
