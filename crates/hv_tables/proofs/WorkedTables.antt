-- Worked entries: the size of each angle of intra prediction (8.4.4.2.6), and an entry of the transform matrix that no
-- row has, the cosine of a quarter of a turn.
use Rattle.std.proofs.Common.{◌≡◌, refl, [], ◌∷◌, map}
use Rattle.std.specs.Prelude.{pos}
use Rattle.hv_tables.specs.Angles.{intraPredAngle}
use Rattle.hv_tables.specs.TransformMatrix.{in_turn}

sizes :
    map intraPredAngle (26 ∷ 27 ∷ 28 ∷ 29 ∷ 30 ∷ 31 ∷ 32 ∷ 33 ∷ 34 ∷ []) ≡
    pos 0 ∷ pos 2 ∷ pos 5 ∷ pos 9 ∷ pos 13 ∷ pos 17 ∷ pos 21 ∷ pos 26 ∷ pos 32 ∷ []
sizes = refl

quarter : in_turn 32 ≡ pos 0
quarter = refl
