-- Truth values.
use Rattle.std.proofs.Common.{◌≡◌, ◌≤◌, Bool, true, false, cond, ◌||◌, refl, arith}
use mir.Val.{bool_byte}
use Rattle.hv_lemmas.specs.Booleans.{same}

pub one_at_most : (b : Bool) → cond b 1 0 ≤ 1
one_at_most true = omega arith
one_at_most false = omega arith

pub same_self : (b : Bool) → same b b ≡ true
same_self true = refl
same_self false = refl

pub or_right : (b c : Bool) → b || c ≡ true → b ≡ false → c ≡ true
or_right true c either off = absurd cc
or_right false c either off = either

pub one_of : (b : Bool) → bool_byte b ≡ cond b 1 0
one_of true = refl
one_of false = refl

-- a choice by a test, where that which it takes may be exchanged
pub same_where : {A : Type 0} (test : Bool) (a b c : A) → (test ≡ true → a ≡ b) →
    cond test a c ≡ cond test b c
same_where true a b c h = h refl
same_where false a b c h = refl

pub other_where : {A : Type 0} (test : Bool) (a b c : A) → (test ≡ false → b ≡ c) →
    cond test a b ≡ cond test a c
other_where true a b c h = refl
other_where false a b c h = h refl
