-- Relations of the angles of intra prediction (8.4.4.2.6) among themselves.
use Rattle.std.specs.Prelude.{◌≡◌, ℕ, ◌+◌, ◌-◌, ◌*◌, ◌/◌, ◌≤◌, pos, neg_ℤ}
use Rattle.std.specs.Int.RustNames.{unsigned_abs}
use Rattle.hv_tables.specs.Angles.{intraPredAngle, invAngle}

-- the modes from the left have the angles of those from above, in the other order
abbrev pub AnglesAreMirrored : Type 0
AnglesAreMirrored =
    (mode : ℕ) → 2 ≤ mode → mode ≤ 34 →
    intraPredAngle (36 - mode) ≡ intraPredAngle mode

-- on the two sides of the horizontal mode, 10, the lines go as far, one backwards
abbrev pub AnglesTurnAtHorizontal : Type 0
AnglesTurnAtHorizontal =
    (mode : ℕ) → 2 ≤ mode → mode ≤ 18 → intraPredAngle (20 - mode) ≡ neg_ℤ (intraPredAngle mode)

-- n / d, to the nearest, a half upwards
abbrev pub nearest : ℕ → ℕ → ℕ
nearest n d = (2 * n + d) / (2 * d)

-- 8192 over the angle, to the nearest, of the modes whose angle is negative
abbrev pub InverseAnglesAreNearest : Type 0
InverseAnglesAreNearest =
    (mode : ℕ) → 11 ≤ mode → mode ≤ 25 →
    invAngle mode ≡ neg_ℤ (pos (nearest 8192 (unsigned_abs (intraPredAngle mode))))
