-- How many neighbours a block has.
use Rattle.std.proofs.Common.{◌≡◌, ℕ, zero, suc, ◌+◌, ◌-◌, ◌*◌, ◌^◌, ◌≤◌, true, refl, ap, ◌∙◌, arith}
use Rattle.hv_intra.specs.Lines.{is_length_of_line}

-- those of a block of 4x4 to 32x32
sides : (n : ℕ) → n ≤ 3 → is_length_of_line (4 * 2 ^ (2 + n) + 1) ≡ true
sides zero most = refl
sides (suc zero) most = refl
sides (suc (suc zero)) most = refl
sides (suc (suc (suc zero))) most = refl
sides (suc (suc (suc (suc n)))) most = absurd (omega (arith, most))

pub line_of_block : (log2 count : ℕ) → 2 ≤ log2 → log2 ≤ 5 → count ≡ 4 * 2 ^ log2 + 1 →
    is_length_of_line count ≡ true
line_of_block log2 count least most long =
    let n : ℕ = log2 - 2 in
    let same : log2 ≡ 2 + n = omega (arith, least) in
    ap is_length_of_line (long ∙ ap (λ l. 4 * 2 ^ l + 1) same) ∙ sides n (omega (arith, most))
