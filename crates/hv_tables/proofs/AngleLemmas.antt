-- The relations of the angles of intra prediction (8.4.4.2.6), computed over all modes.
use Rattle.std.proofs.Common.{ℕ, ◌-◌, Bool, refl, arith}
use Rattle.std.specs.Prelude.{pos, neg_ℤ}
use Rattle.std.specs.Int.RustNames.{unsigned_abs}
use Rattle.std.specs.Ordering.{int_eq}
use Rattle.hv_lemmas.proofs.ComputedLemmas.{holds_between}
use Rattle.hv_tables.specs.Angles.{intraPredAngle, invAngle}
use Rattle.hv_tables.specs.AngleLaws.{AnglesAreMirrored, AnglesTurnAtHorizontal, InverseAnglesAreNearest, nearest}
use Rattle.hv_tables.proofs.ComputedLemmas.{equal_numbers}

abbrev is_mirrored : ℕ → Bool
is_mirrored mode = int_eq (intraPredAngle (36 - mode)) (intraPredAngle mode)

abbrev is_turned : ℕ → Bool
is_turned mode = int_eq (intraPredAngle (20 - mode)) (neg_ℤ (intraPredAngle mode))

abbrev is_nearest : ℕ → Bool
is_nearest mode = int_eq (invAngle mode) (neg_ℤ (pos (nearest 8192 (unsigned_abs (intraPredAngle mode)))))

pub angles_mirrored : AnglesAreMirrored
angles_mirrored mode from to =
    equal_numbers _ _ (holds_between 2 35 is_mirrored refl mode from (omega arith))

pub angles_turned : AnglesTurnAtHorizontal
angles_turned mode from to =
    equal_numbers _ _ (holds_between 2 19 is_turned refl mode from (omega arith))

pub inverse_angles_nearest : InverseAnglesAreNearest
inverse_angles_nearest mode from to =
    equal_numbers _ _ (holds_between 11 26 is_nearest refl mode from (omega arith))
