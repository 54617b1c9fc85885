-- Signed numbers that pass through 32 bits.
use Rattle.std.proofs.Common.{◌≡◌, ℕ, ◌+◌, ◌≤◌, refl, arith, to_z, w32}
use Rattle.std.specs.Prelude.{ℤ, pos, negsuc, ◌+ℤ◌}
use Rattle.std.specs.Int.{int_shr}
use Rattle.std.specs.Int.RustNames.{unsigned_abs}
use Rattle.std.proofs.lemmas.Int.{ints}
use lib.Signed.{shr_z}
use Rattle.hv_lemmas.proofs.SignedLemmas.{passed, passed_small}

pub shifted_by_5 : (z : ℤ) → unsigned_abs z ≤ 1024 → unsigned_abs (shr_z z 32) ≤ 32
shifted_by_5 (pos a) h = omega arith
shifted_by_5 (negsuc a) h = omega arith

pub shifted_by_8 : (z : ℤ) → unsigned_abs (shr_z z 256) ≤ unsigned_abs z
shifted_by_8 (pos a) = omega arith
shifted_by_8 (negsuc a) = omega arith

pub shift_is : (z : ℤ) → unsigned_abs z ≤ 1024 → passed (shr_z (passed z) 32) ≡ int_shr z 5
shift_is z h =
    let few = shifted_by_5 z h in
    let fz = passed_small z (omega arith) in
    let fs = passed_small (shr_z z 32) (omega arith) in
    rw (fz, fs) refl

pub place_is : (z : ℤ) → unsigned_abs z ≤ 131072 →
    passed (shr_z (passed (passed z +ℤ pos 128)) 256) ≡ int_shr (z +ℤ pos 128) 8
place_is z h =
    let sum : unsigned_abs (z +ℤ pos 128) ≤ 131200 = omega (arith, ints) in
    let few = shifted_by_8 (z +ℤ pos 128) in
    let fz = passed_small z (omega arith) in
    let fs = passed_small (z +ℤ pos 128) (omega arith) in
    let ft = passed_small (shr_z (z +ℤ pos 128) 256) (omega arith) in
    rw (fz, fs, ft) refl

pub place_small : (z : ℤ) → unsigned_abs z ≤ 131072 → unsigned_abs (int_shr (z +ℤ pos 128) 8) ≤ 131200
place_small z h =
    let sum : unsigned_abs (z +ℤ pos 128) ≤ 131200 = omega (arith, ints) in
    let few : unsigned_abs (int_shr (z +ℤ pos 128) 8) ≤ unsigned_abs (z +ℤ pos 128) =
    shifted_by_8 (z +ℤ pos 128) in
    omega arith

pub first_is : (n : ℕ) (s : ℤ) → n ≤ 32 → unsigned_abs s ≤ 32 →
    passed (passed (to_z w32 n +ℤ pos 1) +ℤ passed s) ≡ pos (n + 1) +ℤ s
first_is n s h k = omega (arith, ints)
