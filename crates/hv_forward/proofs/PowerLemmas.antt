-- Powers of two, and what is divided by them.
use Rattle.std.proofs.Common.{ap, arith, ℕ, ◌*◌, ◌+◌, ◌-◌, ◌/◌, ◌<◌, ◌^◌, ◌∙◌, ◌≡◌, ◌≤◌}
use Rattle.std.proofs.lemmas.Nat.{pow-add, pow_pos}
use Rattle.std.proofs.Math.Nat.{div-lt_iff_lt-mul, mul-le-mul, mul-le-mul_left, pow-le-pow_right}

pub whole_step : (s : ℕ) → 9 ≤ s → 2 ^ s ≡ 2 ^ (s - 9) * 512
whole_step s least =
    let e : s ≡ (s - 9) + 9 = omega arith in
    ap (λ k. 2 ^ k) e ∙ pow-add 2 (s - 9) 9

pub steps_few : (s : ℕ) → s ≤ 27 → 2 ^ (s - 9) ≤ 262144
steps_few s greatest = pow-le-pow_right {n = 2} (omega arith) {i = s - 9} {j = 18} (omega arith)

-- the greatest coefficient by the greatest factor, divided by 2^16 at least
pub level_small : (size factor offset s : ℕ) → size ≤ 32768 → factor ≤ 26214 → 16 ≤ s → offset ≤ 2 ^ s → (size * factor + offset) / 2 ^ s ≤ 13108
level_small size factor offset s range small least part =
    let product : size * factor ≤ 858980352 = mul-le-mul range small in
    let step : 65536 ≤ 2 ^ s = pow-le-pow_right {n = 2} (omega arith) {i = 16} {j = s} least in
    let steps : 13108 * 65536 ≤ 13108 * 2 ^ s = mul-le-mul_left 13108 step in
    let below : size * factor + offset < 13109 * 2 ^ s = omega arith in
    let quotient : (size * factor + offset) / 2 ^ s < 13109 = (div-lt_iff_lt-mul {k = 2 ^ s} {x = size * factor + offset} {y = 13109} (pow_pos s)).1 below in
    omega arith
