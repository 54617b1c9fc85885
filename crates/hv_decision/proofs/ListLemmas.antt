-- A test of all elements of a list that a function made.
use Rattle.std.proofs.Common.{◌≡◌, refl, ap₂, ◌&&◌, Bool, true, List, [], ◌∷◌, map}
use Rattle.std.specs.List.{list_all}
use Rattle.std.proofs.lemmas.Bool.{and_parts}

pub all-map : {A B : Type 0} (p : B → Bool) (f : A → B) (xs : List A) → list_all p (map f xs) ≡ true →
    list_all (λ x. p (f x)) xs ≡ true
all-map p f [] e = refl
all-map p f (x ∷ xs) e =
    let parts = and_parts (p (f x)) (list_all p (map f xs)) e in
    ap₂ (λ a b. a && b) parts.0 (all-map p f xs parts.1)
