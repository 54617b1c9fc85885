-- Choices by a test.
use Rattle.std.proofs.Common.{◌≡◌, ℕ, Bool, true, false, cond, refl, ap}
use Rattle.std.specs.Prelude.{◌&&◌, Option, None}

pub where_is : {A : Type 0} (test value : Bool) (a b : A) → test ≡ value →
    cond test a b ≡ cond value a b
where_is test value a b e = ap (λ t. cond t a b) e

pub where_never : {A : Type 0} (test : Bool) (a b : A) → (test ≡ true → ⊥) → cond test a b ≡ b
where_never true a b h = absurd (h refl)
where_never false a b h = refl

pub none_either : (test : Bool) (a : Option ℕ) → a ≡ None → cond test a None ≡ None
none_either true a e = e
none_either false a e = refl

pub nested : (t a b : Bool) (c e : Option ℕ) → (t && a && b ≡ true → c ≡ e) →
    cond t (cond (a && b) c None) None ≡ cond (t && a && b) e None
nested true true true c e h = h refl
nested true true false c e h = refl
nested true false b c e h = refl
nested false a b c e h = refl
