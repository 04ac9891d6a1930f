-- Numbers that are one or two, and so the tasks and the locks that have them.
use Rattle.std.proofs.Common.{◌≡◌, ℕ, Bool, true, false, refl, ap, subst, Option, Some, None, IfSome, arith}
use Rattle.std.specs.Prelude.{nat_eq}
use Rattle.std.proofs.lemmas.Bool.Decides.{nat_tests}
use Rattle.rt_base.specs.declared.id.LockId.{LockId}
use Rattle.rt_base.specs.declared.id.TaskId.{TaskId}
use Rattle.rt_model.specs.laws.Owners.{owned_by}

-- two numbers that pass the test are one
pub same_number : (i j : ℕ) → nat_eq i j ≡ true → i ≡ j
same_number i j is = grind (arith, nat_tests)

pub other_number : (i j : ℕ) → nat_eq i j ≡ false → i ≡ j → ⊥
other_number i j is same = grind (arith, nat_tests)

pub number_itself : (i : ℕ) → nat_eq i i ≡ true
number_itself i = grind (arith, nat_tests)

pub other_way : (t u : TaskId) → nat_eq u.0 t.0 ≡ false → nat_eq t.0 u.0 ≡ false
other_way t u is = grind (arith, nat_tests)

-- and so are two tasks or locks
pub same_task : (t u : TaskId) → nat_eq t.0 u.0 ≡ true → t ≡ u
same_task t u is = ap (λ (n : ℕ). record { 0 = n }) (same_number t.0 u.0 is)

pub same_lock : (l m : LockId) → nat_eq l.0 m.0 ≡ true → l ≡ m
same_lock l m is = ap (λ (n : ℕ). record { 0 = n }) (same_number l.0 m.0 is)

-- what holds of one, and of every other, holds of each
each_number : (P : ℕ → Type 0) (i j : ℕ) → P i → (nat_eq i j ≡ false → P j) → P j
each_number P i j here other = by_test (nat_eq i j) refl
  where
    by_test : (b : Bool) → nat_eq i j ≡ b → P j
    by_test true is = subst P (same_number i j is) here
    by_test false is = other is

pub at_each_task : (P : TaskId → Type 0) (t u : TaskId) → P t → (nat_eq t.0 u.0 ≡ false → P u) → P u
at_each_task P t u own other = each_number (λ n. P (record { 0 = n })) t.0 u.0 own other

pub at_each_lock : (P : LockId → Type 0) (l m : LockId) → P l → (nat_eq l.0 m.0 ≡ false → P m) → P m
at_each_lock P l m here there = each_number (λ n. P (record { 0 = n })) l.0 m.0 here there

-- ---- owners

-- a lock has one owner at most
pub one_owner : (owner : Option TaskId) (t u : TaskId) → owned_by owner t ≡ true → nat_eq t.0 u.0 ≡ false → owned_by owner u ≡ false
one_owner None t u is other = refl
one_owner (Some o) t u is other = grind (arith, nat_tests)

-- one with no owner is nobody's
pub nobodys : (owner : Option TaskId) (u : TaskId) → owner ≡ None → owned_by owner u ≡ false
nobodys owner u is = ap (λ (o : Option TaskId). owned_by o u) is

-- what holds of the owner holds of who owns the lock
pub owner-holds : (P : TaskId → Type 0) (owner : Option TaskId) (u : TaskId) → IfSome owner P → owned_by owner u ≡ true → P u
owner-holds P None u holds is = cc
owner-holds P (Some o) u holds is = subst P (same_task o u is) holds

pub owner-is : (owner : Option TaskId) (u : TaskId) → owned_by owner u ≡ true → owner ≡ Some u
owner-is None u is = cc
owner-is (Some o) u is = ap Some (same_task o u is)
