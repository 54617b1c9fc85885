-- What writes, one after another, put behind what a sink had: whole lists of bytes, and a first part of one.
use Rattle.std.proofs.Common.{◌≡◌, ℕ, zero, suc, ◌+◌, List, [], ◌∷◌, ◌++◌, length, take, refl, sym, ap, ◌∙◌, append_assoc}
use Rattle.std.specs.Prelude.{Some, Option}
use Rattle.std.proofs.Math.Seq.{take-append-add}
use Rattle.hv_serial.specs.Transfers.{Grows, PutsPart}

pub Grows-more : (old mid new : Option (List ℕ)) (a b : List ℕ) → Grows old mid a → Grows mid new b → Grows old new (a ++ b)
Grows-more old mid new a b first second had e =
    second (had ++ a) (first had e) ∙ ap Some (append_assoc had a b)

-- a first part of a list is one of a longer list
shorter : (a b : List ℕ) (n : ℕ) → (m : ℕ) × (take m (a ++ b) ≡ take n a)
shorter [] b zero = (0, refl)
shorter [] b (suc n) = (0, refl)
shorter (x ∷ a) b zero = (0, refl)
shorter (x ∷ a) b (suc n) =
    let rest = shorter a b n in
    (suc rest.0, ap (λ (y : List ℕ). x ∷ y) rest.1)

-- a part of the first list is one of both
pub PutsPart-first : (old new : Option (List ℕ)) (a b : List ℕ) → PutsPart old new a → PutsPart old new (a ++ b)
PutsPart-first old new a b part had e =
    let p = part had e in
    let cut = shorter a b p.0 in
    (cut.0, p.1 ∙ ap (λ (x : List ℕ). Some (had ++ x)) (sym cut.1))

-- the first list and a part of the second one
pub PutsPart-more : (old mid new : Option (List ℕ)) (a b : List ℕ) → Grows old mid a → PutsPart mid new b → PutsPart old new (a ++ b)
PutsPart-more old mid new a b first part had e =
    let p = part (had ++ a) (first had e) in
    (length a + p.0, p.1 ∙ ap Some (append_assoc had a (take p.0 b) ∙ ap (λ (x : List ℕ). had ++ x) (sym (take-append-add a b p.0))))
