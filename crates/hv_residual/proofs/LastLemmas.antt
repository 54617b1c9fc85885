-- The last significant position as it is coded (7.3.8.11, 7.4.9.11).
use Rattle.std.proofs.Common.{◌≡◌, ℕ, zero, suc, ◌+◌, ◌-◌, ◌*◌, ◌^◌, ◌<◌, ◌≤◌, Bool, true, nat_le, List, ◌++◌, get_or, refl, ap, ◌∙◌, arith}
use Rattle.std.proofs.Math.Pow.{pow_mono}
use Rattle.std.proofs.lemmas.Bool.{leb-true}
use Rattle.hv_lemmas.specs.Lists.{tabulate}
use Rattle.hv_lemmas.proofs.ComputedLemmas.{all_below, holds_below}
use Rattle.hv_lemmas.proofs.ListLemmas.{get_or-tabulate}
use Rattle.hv_tables.specs.declared.bins.CtxTable.TheVariants.{LastX, LastY}
use Rattle.hv_plan.specs.declared.prediction.Scan.{Scan}
use Rattle.hv_plan.specs.declared.prediction.Scan.TheVariants.{Diagonal, Horizontal, Vertical}
use Rattle.hv_residual_model.specs.ScanOrder.{Position, at, position_at, block_position}
use Rattle.hv_residual_model.specs.ResidualContexts.{TransformBlock}
use Rattle.hv_residual_model.specs.ResidualSyntax.{swapped_in, sub_block_at}
use Rattle.hv_residual_model.specs.ResidualBins.{prefix_of, last_prefix_bins, last_suffix_bins, last_bins}
use Rattle.hv_residual.proofs.ScanLemmas.{four_times}
use Rattle.hv_residual.proofs.GatheringLemmas.{quotient, remainder}

-- ---- prefixes
fits : ℕ → ℕ → Bool
fits log2 coordinate = nat_le (prefix_of coordinate) (2 * log2 - 1)

fit_4 : all_below 4 (fits 2) ≡ true
unfolding fits prefix_of
fit_4 = refl

fit_8 : all_below 8 (fits 3) ≡ true
unfolding fits prefix_of
fit_8 = refl

fit_16 : all_below 16 (fits 4) ≡ true
unfolding fits prefix_of
fit_16 = refl

fit_32 : all_below 32 (fits 5) ≡ true
unfolding fits prefix_of
fit_32 = refl

pub prefix_fits : (log2 coordinate : ℕ) → 2 ≤ log2 → log2 ≤ 5 → coordinate < 2 ^ log2 →
    prefix_of coordinate ≤ 2 * log2 - 1
unfolding fits
prefix_fits zero coordinate least most h = absurd (omega arith)
prefix_fits (suc zero) coordinate least most h = absurd (omega arith)
prefix_fits (suc (suc zero)) coordinate least most h =
    leb-true _ _ (holds_below 4 (fits 2) fit_4 coordinate h)
prefix_fits (suc (suc (suc zero))) coordinate least most h =
    leb-true _ _ (holds_below 8 (fits 3) fit_8 coordinate h)
prefix_fits (suc (suc (suc (suc zero)))) coordinate least most h =
    leb-true _ _ (holds_below 16 (fits 4) fit_16 coordinate h)
prefix_fits (suc (suc (suc (suc (suc zero))))) coordinate least most h =
    leb-true _ _ (holds_below 32 (fits 5) fit_32 coordinate h)
prefix_fits (suc (suc (suc (suc (suc (suc n)))))) coordinate least most h = absurd (omega arith)

pub below_32 : (log2 x : ℕ) → log2 ≤ 5 → x < 2 ^ log2 → x < 32
below_32 log2 x h j = let p = pow_mono {i = log2} {j = 5} h in omega (arith, p, j)

pub prefix_entry : (table : List ℕ) (i : ℕ) → table ≡ tabulate 32 prefix_of → i < 32 →
    get_or table i 0 ≡ prefix_of i
prefix_entry table i e h =
    ap (λ (xs : List ℕ). get_or xs i 0) e ∙ get_or-tabulate 32 i prefix_of 0 h

-- ---- the position
pub in_block : (b : TransformBlock) (s i : ℕ) (S P : Position) → i < 16 → S ≡ sub_block_at b s →
    P ≡ position_at b.scanIdx 2 i →
    at (4 * S.x + P.x) (4 * S.y + P.y) ≡ block_position b.scanIdx b.log2TrafoSize (16 * s + i)
unfolding block_position
in_block b s i S P h eS eP = rw (eS, eP, quotient s i h, remainder s i h) refl

pub not_swapped_diagonal : (scan : Scan) (p : Position) → scan ≡ Diagonal → p ≡ swapped_in scan p
not_swapped_diagonal scan p e = rw e refl

pub not_swapped_horizontal : (scan : Scan) (p : Position) → scan ≡ Horizontal → p ≡ swapped_in scan p
not_swapped_horizontal scan p e = rw e refl

pub swapped_vertical : (scan : Scan) (p : Position) → scan ≡ Vertical → at p.y p.x ≡ swapped_in scan p
swapped_vertical scan p e = rw e refl

pub inside_side : (log2 c x : ℕ) → 2 ≤ log2 → c < 2 ^ (log2 - 2) → x < 4 → 4 * c + x < 2 ^ log2
inside_side log2 c x h k j = omega (arith, four_times log2 h)

-- ---- the bins
pub parts_of_last : (b : TransformBlock) (n : ℕ) (p : Position) →
    p ≡ swapped_in b.scanIdx (block_position b.scanIdx b.log2TrafoSize n) →
    last_prefix_bins LastX b p.x ++ (last_prefix_bins LastY b p.y ++
    (last_suffix_bins p.x ++ last_suffix_bins p.y)) ≡ last_bins b n
unfolding last_bins
parts_of_last b n p e = rw e refl
