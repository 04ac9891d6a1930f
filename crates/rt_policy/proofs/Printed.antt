-- One print after another.
use Rattle.std.proofs.Common.{◌≡◌, ℕ, List, [], ◌++◌, Option, Result, Ok, Err, IsErr, OnOk, refl, sym, ap, ◌∙◌, subst, append_assoc, append-nil, arith}
use Rattle.rt_base.specs.declared.fault.Failed.{Failed}
use Rattle.rt_base.specs.Outside.{Appends, AppendsPrefix, Writes}
use Rattle.rt_base.proofs.Outside.{Appends-nothing, Appends-then, AppendsPrefix-more, AppendsPrefix-then}
use Rattle.rt_policy.specs.Printing.{HandsOn, Prints}

-- nothing printed
pub HandsOn-nothing : (held : Option (List ℕ)) (gathered : List ℕ) → HandsOn held gathered [] held gathered
HandsOn-nothing held gathered = ([], sym (append-nil gathered), Appends-nothing held)

-- text gathered alone
pub HandsOn-gathered : (held : Option (List ℕ)) (gathered text now : List ℕ) → now ≡ gathered ++ text → HandsOn held gathered text held now
HandsOn-gathered held gathered text now is = ([], is, Appends-nothing held)

pub HandsOn-then : (h0 h1 h2 : Option (List ℕ)) (b0 b1 b2 xs ys : List ℕ) → HandsOn h0 b0 xs h1 b1 → HandsOn h1 b1 ys h2 b2 → HandsOn h0 b0 (xs ++ ys) h2 b2
HandsOn-then h0 h1 h2 b0 b1 b2 xs ys first second = (
  first.0 ++ second.0,
  append_assoc first.0 second.0 b2 ∙ (ap (λ zs. first.0 ++ zs) second.1 ∙ (sym (append_assoc first.0 b1 ys) ∙ (ap (λ zs. zs ++ ys) first.1 ∙ append_assoc b0 xs ys))),
  Appends-then h0 h1 h2 first.0 second.0 first.2 second.2,
)

-- text handed on, and after a fault a prefix of more
pub HandsOn-stopped : (h0 h1 h2 : Option (List ℕ)) (b0 b1 xs ys zs : List ℕ) → HandsOn h0 b0 xs h1 b1 → AppendsPrefix h1 (b1 ++ ys) h2 → AppendsPrefix h0 (b0 ++ (xs ++ (ys ++ zs))) h2
HandsOn-stopped h0 h1 h2 b0 b1 xs ys zs first second =
    let first_two : AppendsPrefix h0 (first.0 ++ (b1 ++ ys)) h2 = AppendsPrefix-then h0 h1 h2 first.0 (b1 ++ ys) first.2 second in
    let same : first.0 ++ (b1 ++ ys) ≡ b0 ++ (xs ++ ys) = sym (append_assoc first.0 b1 ys) ∙ (ap (λ ws. ws ++ ys) first.1 ∙ append_assoc b0 xs ys) in
    let more : AppendsPrefix h0 ((first.0 ++ (b1 ++ ys)) ++ zs) h2 = AppendsPrefix-more h0 h2 (first.0 ++ (b1 ++ ys)) zs first_two in
    subst (λ (text : List ℕ). AppendsPrefix h0 text h2) (ap (λ ws. ws ++ zs) same ∙ (append_assoc b0 (xs ++ ys) zs ∙ ap (λ ws. b0 ++ ws) (append_assoc xs ys zs))) more

-- what was printed from an empty buffer to an empty one was written
pub Appends-printed : (h0 h1 : Option (List ℕ)) (text : List ℕ) → HandsOn h0 [] text h1 [] → Appends h0 text h1
Appends-printed h0 h1 text hands = subst (λ (bytes : List ℕ). Appends h0 bytes h1) (sym (append-nil hands.0) ∙ hands.1) hands.2

-- a fault, and no more text: as at the exit of a `?`
pub Prints-stopped : {T U : Type 0} {h0 h1 : Option (List ℕ)} {b0 b1 : List ℕ} {f0 f1 : ℕ} {xs : List ℕ} {e : Failed} {result : Result U Failed} (ys : List ℕ)
    → Prints {T = T} (Err e) h0 b0 h1 b1 f0 f1 xs → IsErr result → Prints result h0 b0 h1 b1 f0 f1 (xs ++ ys)
Prints-stopped {result = Ok y} ys first err = cc err
Prints-stopped {h0 = h0} {h1 = h1} {b0 = b0} {xs = xs} {result = Err d} ys first err = record {
  whole = tt;
  no_fault = tt;
  part = subst (λ (text : List ℕ). AppendsPrefix h0 text h1) (append_assoc b0 xs ys) (AppendsPrefix-more h0 h1 (b0 ++ xs) ys first.part);
  cause = first.cause;
  count = first.count;
}

-- room made, and then text gathered
pub Prints-gathered : {T U : Type 0} {h0 h1 : Option (List ℕ)} {b0 b1 b2 : List ℕ} {f0 f1 : ℕ} {x : T} {y : U} (ys : List ℕ)
    → Prints {T = T} (Ok x) h0 b0 h1 b1 f0 f1 [] → b2 ≡ b1 ++ ys → Prints {T = U} (Ok y) h0 b0 h1 b2 f0 f1 ys
Prints-gathered {h0 = h0} {h1 = h1} {b0 = b0} {b1 = b1} {b2 = b2} ys first is =
    record { whole = HandsOn-then h0 h1 h1 b0 b1 b2 [] ys first.whole (HandsOn-gathered h1 b1 ys b2 is); no_fault = first.no_fault; part = tt; cause = tt; count = first.count }

-- text printed, and then handed over with a fault
pub Writes-flushed_err : {T U V : Type 0} {h0 h1 h2 : Option (List ℕ)} {b0 b1 b2 : List ℕ} {f0 f1 f2 : ℕ} {xs : List ℕ} {x : T} {e : Failed} {result : Result V Failed}
    → b0 ≡ [] → Prints {T = T} (Ok x) h0 b0 h1 b1 f0 f1 xs → Prints {T = U} (Err e) h1 b1 h2 b2 f1 f2 [] → IsErr result → Writes result h0 h2 f0 f2 xs
Writes-flushed_err {result = Ok y} none first second err = cc err
Writes-flushed_err {h0 = h0} {h1 = h1} {h2 = h2} {b0 = b0} {b1 = b1} {xs = xs} {result = Err d} none first second err =
    let cut : AppendsPrefix h0 (b0 ++ (xs ++ ([] ++ []))) h2 = HandsOn-stopped h0 h1 h2 b0 b1 xs [] [] first.whole second.part in
    record {
      whole = tt;
      no_fault = tt;
      part = subst (λ (text : List ℕ). AppendsPrefix h0 text h2) (ap (λ (bytes : List ℕ). bytes ++ (xs ++ [])) none ∙ append-nil xs) cut;
      cause = omega arith;
      count = omega arith;
    }

-- text printed, and then handed over
pub Writes-flushed : {T U : Type 0} {h0 h1 h2 : Option (List ℕ)} {b0 b1 b2 : List ℕ} {f0 f1 f2 : ℕ} {xs : List ℕ} {x : T} {result : Result U Failed}
    → b0 ≡ [] → Prints {T = T} (Ok x) h0 b0 h1 b1 f0 f1 xs → Prints result h1 b1 h2 b2 f1 f2 [] → OnOk result (b2 ≡ []) → Writes result h0 h2 f0 f2 xs
Writes-flushed {h0 = h0} {h1 = h1} {h2 = h2} {b0 = b0} {b1 = b1} {b2 = b2} {xs = xs} {result = Ok y} none first second gone =
    let all : HandsOn h0 b0 (xs ++ []) h2 b2 = HandsOn-then h0 h1 h2 b0 b1 b2 xs [] first.whole second.whole in
    let plain : HandsOn h0 [] xs h2 [] = subst (λ (b : List ℕ). HandsOn h0 b xs h2 []) none (subst (λ (b : List ℕ). HandsOn h0 b0 xs h2 b) gone (subst (λ (text : List ℕ). HandsOn h0 b0 text h2 b2) (append-nil xs) all)) in
    record { whole = Appends-printed h0 h2 xs plain; no_fault = second.no_fault ∙ first.no_fault; part = tt; cause = tt; count = omega arith }
Writes-flushed {result = Err d} none first second gone = Writes-flushed_err none first second refl

-- what was gathered, and what is printed after it, from an empty buffer
pub Prints-after_gathered : {T : Type 0} {h0 h1 : Option (List ℕ)} {b0 b1 : List ℕ} {f0 f1 : ℕ} {xs ys : List ℕ} {result : Result T Failed} → b0 ≡ xs → Prints result h0 b0 h1 b1 f0 f1 ys → Prints result h0 [] h1 b1 f0 f1 (xs ++ ys)
Prints-after_gathered {h0 = h0} {h1 = h1} {b0 = b0} {b1 = b1} {xs = xs} {ys = ys} {result = Ok x} is prints =
    record { whole = (prints.whole.0, prints.whole.1 ∙ ap (λ (b : List ℕ). b ++ ys) is, prints.whole.2); no_fault = prints.no_fault; part = tt; cause = tt; count = prints.count }
Prints-after_gathered {h0 = h0} {h1 = h1} {b0 = b0} {xs = xs} {ys = ys} {result = Err e} is prints =
    record { whole = tt; no_fault = tt; part = subst (λ (b : List ℕ). AppendsPrefix h0 (b ++ ys) h1) is prints.part; cause = prints.cause; count = prints.count }

-- a fault while printing, from an empty buffer
pub Writes-printed_err : {T U : Type 0} {h0 h1 : Option (List ℕ)} {b1 : List ℕ} {f0 f1 : ℕ} {xs : List ℕ} {e : Failed} {result : Result U Failed} → Prints {T = T} (Err e) h0 [] h1 b1 f0 f1 xs → IsErr result → Writes result h0 h1 f0 f1 xs
Writes-printed_err {result = Ok y} prints err = cc err
Writes-printed_err {result = Err d} prints err = record { whole = tt; no_fault = tt; part = prints.part; cause = prints.cause; count = prints.count }

-- a fault before more text, of which ys was to come
pub Prints-cut : {T U V : Type 0} {h0 h1 h2 : Option (List ℕ)} {b0 b1 b2 : List ℕ} {f0 f1 f2 : ℕ} {xs : List ℕ} {x : T} {e : Failed} {result : Result V Failed} (ys : List ℕ)
    → Prints {T = T} (Ok x) h0 b0 h1 b1 f0 f1 xs → Prints {T = U} (Err e) h1 b1 h2 b2 f1 f2 [] → IsErr result → Prints result h0 b0 h2 b2 f0 f2 (xs ++ ys)
Prints-cut {result = Ok y} ys first second err = cc err
Prints-cut {h0 = h0} {h1 = h1} {h2 = h2} {b0 = b0} {b1 = b1} {xs = xs} {result = Err d} ys first second err =
    record { whole = tt; no_fault = tt; part = HandsOn-stopped h0 h1 h2 b0 b1 xs [] ys first.whole second.part; cause = omega arith; count = omega arith }

-- room made, and more text gathered
pub Prints-more : {T U : Type 0} {h0 h1 h2 : Option (List ℕ)} {b0 b1 b2 b3 : List ℕ} {f0 f1 f2 : ℕ} {xs : List ℕ} {x : T} {y : U} (ys : List ℕ)
    → Prints {T = T} (Ok x) h0 b0 h1 b1 f0 f1 xs → Prints {T = U} (Ok y) h1 b1 h2 b2 f1 f2 [] → b3 ≡ b2 ++ ys → Prints {T = T} (Ok x) h0 b0 h2 b3 f0 f2 (xs ++ ys)
Prints-more {h0 = h0} {h1 = h1} {h2 = h2} {b0 = b0} {b1 = b1} {b2 = b2} {b3 = b3} {xs = xs} ys first second is =
    record {
      whole = HandsOn-then h0 h1 h2 b0 b1 b3 xs ys first.whole (HandsOn-then h1 h2 h2 b1 b2 b3 [] ys second.whole (HandsOn-gathered h2 b2 ys b3 is));
      no_fault = second.no_fault ∙ first.no_fault;
      part = tt;
      cause = tt;
      count = omega arith;
    }
