-- The register's bounds.
use Rattle.std.proofs.Common.{◌≡◌, ℕ, zero, suc, ◌+◌, ◌-◌, ◌*◌, ◌%◌, ◌^◌, ◌<◌, ◌≤◌, List, length, refl, sym, ap, ◌∙◌, arith, pow_pos, pow-add, mul-le-mul_right, mul-le-mul_left, pow-suc, mod-lt, inl, inr}
use Rattle.std.proofs.Math.Pow.{pow_mono}
use Rattle.std.proofs.lemmas.Nat.{leading_top}
use Rattle.std.proofs.lemmas.Bool.{cases_order}
use Rattle.std.specs.Int.Count.{count_leading_zeros}
use Rattle.std.specs.Prelude.{◌⊎◌}
use Rattle.hv_entropy_model.specs.CodeWord.{shift_of, odd_from}
use Rattle.hv_entropy_model.proofs.IntervalLemmas.{shift_fits}
use Rattle.hv_cabac.specs.Bytes.{total, places_of, HasRoom}

-- ---- renormalization by the leading zeros
-- two shifts of one width to 256 or more, and below 512, are one
shift_once : (w d e : ℕ) → 256 ≤ w * 2 ^ d → w * 2 ^ e < 512 → e ≤ d
shift_once w d e h k = go (cases_order d e)
  where
    go : (d ≡ e) ⊎ ((d < e) ⊎ (e < d)) → e ≤ d
    go (inl q) = omega arith
    go (inr (inr q)) = omega arith
    go (inr (inl q)) =
        let m = mul-le-mul_left w (pow_mono {i = suc d} {j = e} q) in
        absurd (omega (arith, rw (pow-suc 2 d) at m))

below_256 : (i w : ℕ) → 2 ^ i ≤ w → w ≤ 510 → (8 ≡ i) ⊎ ((8 < i) ⊎ (i < 8)) → i ≤ 8
below_256 i w h k (inl e) = omega arith
below_256 i w h k (inr (inr e)) = omega arith
below_256 i w h k (inr (inl e)) =
    let m = pow_mono {i = 9} {j = i} e in absurd (omega (arith, m))

pub leading_shift : (w : ℕ) → 0 < w → w ≤ 510 →
    (23 ≤ count_leading_zeros 32 w) × (count_leading_zeros 32 w - 23 ≡ shift_of w) ×
    (count_leading_zeros 32 w - 23 ≤ 8)
leading_shift w p q =
    let t = leading_top 32 w p (omega arith) in
    let j : ℕ = t.0 in
    let s = shift_fits w p q in
    let le : j ≤ 8 = below_256 j w t.2 q (cases_order 8 j) in
    let k : count_leading_zeros 32 w - 23 ≡ 8 - j = omega (arith, t.1, le) in
    let e8 : j + (8 - j) ≡ 8 = omega (arith, le) in
    let e : 2 ^ j * 2 ^ (8 - j) ≡ 256 = sym (pow-add 2 j (8 - j)) ∙ ap (λ (x : ℕ). 2 ^ x) e8 in
    let lo : 256 ≤ w * 2 ^ (8 - j) = omega (arith, e, mul-le-mul_right (2 ^ (8 - j)) t.2) in
    let up = mul-le-mul_right (2 ^ (8 - j)) t.3 in
    let f : 2 ^ suc j * 2 ^ (8 - j) ≡ 512 = rw (pow-suc 2 j) (omega (arith, e)) in
    let pos : 0 < 2 ^ (8 - j) = pow_pos (8 - j) in
    let hi : w * 2 ^ (8 - j) < 512 = omega (arith, f, up, pos) in
    let one = shift_once w (8 - j) (shift_of w) lo (omega (arith, s.1)) in
    let two = shift_once w (shift_of w) (8 - j) s.0 hi in
    (omega (arith, t.1, le), omega (arith, k, one, two), omega (arith, k))

-- ---- how large the register grows
pub below_25 : (k : ℕ) → k ≤ 25 → 2 ^ k ≤ 33554432
below_25 k h = pow_mono {i = k} {j = 25} h

-- the part of the interval that is kept stays as far to the left
pub low_grows : (low range bits skip w s : ℕ) → 2 * (low + range) ≤ 3 * 2 ^ bits → skip + w ≤ range →
    2 * ((low + skip) * 2 ^ s + w * 2 ^ s) ≤ 3 * 2 ^ (bits + s)
low_grows low range bits skip w s h k =
    let le : 2 * (low + skip + w) ≤ 3 * 2 ^ bits = omega arith in
    let m = mul-le-mul_right (2 ^ s) le in
    omega (arith, m, pow-add 2 bits s)

pub rest_small : (low range bits : ℕ) → 18 ≤ bits → range ≤ 510 →
    2 * (low % 2 ^ (bits - 8) + range) ≤ 3 * 2 ^ (bits - 8)
rest_small low range bits h k =
    let m = mod-lt low (pow_pos (bits - 8)) in
    let p = pow_mono {i = 10} {j = bits - 8} (omega arith) in
    omega (arith, m, p)

pub last_small : (low range bits pad : ℕ) → 256 ≤ range → 2 * (low + range) ≤ 3 * 2 ^ bits →
    2 * (odd_from (low + range - 2) * 2 ^ pad) < 3 * 2 ^ (bits + pad)
last_small low range bits pad h k =
    let q = pow_pos pad in
    let d : 2 * odd_from (low + range - 2) + 1 ≤ 3 * 2 ^ bits = omega arith in
    let m = mul-le-mul_right (2 ^ pad) d in
    omega (arith, m, q, pow-add 2 bits pad)

-- ---- no carry leaves the bytes
pub bytes_power : (k : ℕ) → 256 ^ k ≡ 2 ^ (8 * k)
bytes_power zero = refl
bytes_power (suc k) =
    let e : 8 * suc k ≡ 8 * k + 8 = omega arith in
    rw (e, pow-suc 256 k, bytes_power k) (sym (pow-add 2 (8 * k) 8))

pub room_at : (xs : List ℕ) (bits : ℕ) → 256 ^ length xs * 2 ^ bits ≡ 2 ^ places_of xs bits
room_at xs bits = rw (bytes_power (length xs)) (sym (pow-add 2 (8 * length xs) bits))

pub room_of : (xs : List ℕ) (bits n : ℕ) → places_of xs bits ≡ n + 9 →
    256 ^ length xs * 2 ^ bits ≡ 2 ^ n * 512
room_of xs bits n e = room_at xs bits ∙ ap (λ (x : ℕ). 2 ^ x) e ∙ pow-add 2 n 9

pub total_grows : (xs : List ℕ) (bits low skip s : ℕ) →
    total xs (bits + s) ((low + skip) * 2 ^ s) ≡ (total xs bits low + skip) * 2 ^ s
total_grows xs bits low skip s = rw (pow-add 2 bits s) (omega arith)

-- while the interval lies in the whole one
pub room : (xs : List ℕ) (bits low range skip w s n : ℕ) → places_of xs bits ≡ n + 9 →
    total xs bits low + range ≤ 510 * 2 ^ n → skip + w ≤ range → 0 < w →
    HasRoom xs (bits + s) ((low + skip) * 2 ^ s)
room xs bits low range skip w s n e h k p =
    let t = total_grows xs bits low skip s in
    let a : total xs bits low + skip < 510 * 2 ^ n = omega arith in
    let b = room_of xs bits n e in
    let d : total xs bits low + skip + 1 ≤ 256 ^ length xs * 2 ^ bits = omega (arith, a, b) in
    let m = mul-le-mul_right (2 ^ s) d in
    let q = pow_pos s in
    rw (t, pow-add 2 bits s) (omega (arith, m, q))

-- one more byte of the last digits
pub rest_goes_on : (xs ys zs : List ℕ) (b k l r low : ℕ) → places_of ys k ≡ places_of xs b →
    (HasRoom xs b low → total ys k l ≡ total xs b low) →
    (HasRoom ys k l → total zs (k - 8) (l % 2 ^ (k - 8)) ≡ total ys k l) → r ≡ l % 2 ^ (k - 8) →
    HasRoom xs b low → total zs (k - 8) r ≡ total xs b low
rest_goes_on xs ys zs b k l r low p e f g h =
    let t = e h in
    let m : HasRoom ys k l = rw (t, room_at ys k, p, ← room_at xs b) h in
    rw g (f m ∙ t)
