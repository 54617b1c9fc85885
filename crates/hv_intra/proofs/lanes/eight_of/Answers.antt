use Rattle.std.proofs.Common.{◌∙◌, ap, refl, List, ℕ, get_or, map, ◌++◌, ◌∷◌, []}
use Rattle.hv_intra.proofs.lanes.eight_of.Goals as goal

pub returns : goal.returns
returns c = λ w e.
    ap (λ (v : List ℕ). map (λ i. get_or (v ++ v) i 0) (0 ∷ 1 ∷ 2 ∷ 3 ∷ 4 ∷ 5 ∷ 6 ∷ 7 ∷ [])) e ∙ refl
