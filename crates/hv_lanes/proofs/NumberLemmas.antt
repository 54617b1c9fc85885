-- How great sums and their means are.
use Rattle.std.proofs.Common.{arith, negsuc, pos, refl, ℕ, ℤ, ◌*◌, ◌+ℤ◌, ◌+◌, ◌-◌, ◌/◌, ◌<◌, ◌^◌, ◌≡◌, ◌≤◌}
use Rattle.std.specs.Int.RustNames.{unsigned_abs}
use Rattle.std.proofs.lemmas.Int.{clamps, ints}
use mir.Syntax.{w16}
use mir.Val.{SFits}
use Rattle.hv_lemmas.specs.Clipping.{clip16}
use Rattle.std.proofs.Math.Nat.{add-mul, div-lt_iff_lt-mul}
use Rattle.std.specs.Int.Signed.{shr_z}
use Rattle.std.proofs.lemmas.Nat.{pow_pos}
use Rattle.std.proofs.Math.Pow.{pow-lt}
use Rattle.hv_sample_model.specs.Quantisation.{rounded}

pub size_of_clipped : (z : ℤ) → unsigned_abs (clip16 z) ≤ 32768
size_of_clipped z = omega (arith, ints, clamps)

below_quotient : (m k d : ℕ) → 0 < d → m < k * d → m / d < k
below_quotient m k d some h = (div-lt_iff_lt-mul {k = d} {x = m} {y = k} some).1 h

-- rounding down, after half a step is added
shifted : (z y : ℤ) (d half most : ℕ) → z ≡ y +ℤ pos half → 0 < half → half < d → unsigned_abs y ≤ most * d → unsigned_abs (shr_z z d) ≤ most
shifted (pos m) y d half most e some small h =
    let spread : (most + 1) * d ≡ most * d + 1 * d = add-mul most 1 d in
    let below : m < (most + 1) * d = omega (arith, ints, e, small, h, spread) in
    omega (arith, below_quotient m (most + 1) d (omega arith) below)
shifted (negsuc m) y d half most e some small h =
    let below : m < most * d = omega (arith, ints, e, some, h) in
    omega (arith, below_quotient m most d (omega arith) below)

half_below : (s : ℕ) → 0 < s → (0 < 2 ^ (s - 1)) × (2 ^ (s - 1) < 2 ^ s)
half_below s some = (pow_pos (s - 1), pow-lt (omega arith))

pub size_of_rounded : (z : ℤ) (s most : ℕ) → 0 < s → unsigned_abs z ≤ most * 2 ^ s → unsigned_abs (rounded z s) ≤ most
size_of_rounded z s most some h =
    shifted (z +ℤ pos (2 ^ (s - 1))) z (2 ^ s) (2 ^ (s - 1)) most refl (half_below s some).0 (half_below s some).1 h

pub small_number : (z : ℤ) → SFits w16 z → unsigned_abs z ≤ 32768
small_number (pos n) f = omega (arith, ints, f)
small_number (negsuc n) f = omega (arith, ints, f)
