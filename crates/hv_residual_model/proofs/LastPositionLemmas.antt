-- The last significant position is read back (7.3.8.11).
use Rattle.std.proofs.Common.{◌≡◌, ℕ, zero, suc, ◌+◌, ◌-◌, ◌*◌, ◌^◌, ◌<◌, ◌≤◌, Bool, true, refl, ap, ap₂, ◌∙◌, arith, ltb-true}
use Rattle.std.specs.Prelude.{nat_lt, nat_le, ◌&&◌}
use Rattle.std.proofs.lemmas.Bool.{and_parts, leb-true}
use Rattle.hv_lemmas.proofs.ComputedLemmas.{all_below, holds_below}
use Rattle.hv_tables.specs.declared.bins.CtxTable.{CtxTable}
use Rattle.hv_tables.specs.declared.bins.CtxTable.TheVariants.{LastX, LastY}
use Rattle.hv_plan.specs.declared.prediction.Scan.{Scan}
use Rattle.hv_plan.specs.declared.prediction.Scan.TheVariants.{Diagonal, Horizontal, Vertical}
use Rattle.hv_stream_model.specs.Scripts.{Done, ◌>>=◌, Reads}
use Rattle.hv_stream_model.proofs.ScriptLemmas.{reads_then, reads_map}
use Rattle.hv_residual_model.specs.ScanOrder.{Position, at, block_position, block_number}
use Rattle.hv_residual_model.specs.ResidualContexts.{TransformBlock, last_prefix_at}
use Rattle.hv_residual_model.specs.ResidualSyntax.{last_sig_coeff_prefix, suffix_length, last_sig_coeff_suffix, first_of_prefix, swapped_in, last_sig_coeff}
use Rattle.hv_residual_model.specs.ResidualBins.{prefix_of, last_prefix_bins, last_suffix_bins, last_bins}
use Rattle.hv_residual_model.proofs.UnitBinLemmas.{reads_value}
use Rattle.hv_residual_model.proofs.BinarizationLemmas.{reads_truncated_unary, reads_small_number}
use Rattle.hv_residual_model.proofs.ScanLemmas.{inside}

-- ---- by computing: prefixes of coordinates below 32

abbrev prefix_is_good : ℕ → Bool
prefix_is_good v =
    nat_le (first_of_prefix (prefix_of v)) v &&
    nat_lt (v - first_of_prefix (prefix_of v)) (2 ^ suffix_length (prefix_of v))

prefixes_are_good : all_below 32 prefix_is_good ≡ true
unfolding prefix_of
prefixes_are_good = refl

abbrev prefix_fits : ℕ → ℕ → Bool
prefix_fits log2 v = nat_le (prefix_of v) (2 * log2 - 1)

prefixes_fit_4 : all_below 4 (prefix_fits 2) ≡ true
unfolding prefix_of
prefixes_fit_4 = refl

prefixes_fit_8 : all_below 8 (prefix_fits 3) ≡ true
unfolding prefix_of
prefixes_fit_8 = refl

prefixes_fit_16 : all_below 16 (prefix_fits 4) ≡ true
unfolding prefix_of
prefixes_fit_16 = refl

prefixes_fit_32 : all_below 32 (prefix_fits 5) ≡ true
unfolding prefix_of
prefixes_fit_32 = refl

prefixes_fit : (log2 : ℕ) → 2 ≤ log2 → log2 ≤ 5 → all_below (2 ^ log2) (prefix_fits log2) ≡ true
prefixes_fit zero least most = absurd (omega arith)
prefixes_fit (suc zero) least most = absurd (omega arith)
prefixes_fit (suc (suc zero)) least most = prefixes_fit_4
prefixes_fit (suc (suc (suc zero))) least most = prefixes_fit_8
prefixes_fit (suc (suc (suc (suc zero)))) least most = prefixes_fit_16
prefixes_fit (suc (suc (suc (suc (suc zero))))) least most = prefixes_fit_32
prefixes_fit (suc (suc (suc (suc (suc (suc n)))))) least most = absurd (omega arith)

below_32 : (log2 v : ℕ) → 2 ≤ log2 → log2 ≤ 5 → v < 2 ^ log2 → v < 32
below_32 zero v least most h = absurd (omega arith)
below_32 (suc zero) v least most h = absurd (omega arith)
below_32 (suc (suc zero)) v least most h = omega (arith, h)
below_32 (suc (suc (suc zero))) v least most h = omega (arith, h)
below_32 (suc (suc (suc (suc zero)))) v least most h = omega (arith, h)
below_32 (suc (suc (suc (suc (suc zero))))) v least most h = h
below_32 (suc (suc (suc (suc (suc (suc n)))))) v least most h = absurd (omega arith)

-- ---- one coordinate

record Good (b : TransformBlock) (v : ℕ) : Type 0 where
  fits : prefix_of v ≤ 2 * b.log2TrafoSize - 1
  from : first_of_prefix (prefix_of v) ≤ v
  short : v - first_of_prefix (prefix_of v) < 2 ^ suffix_length (prefix_of v)

good : (b : TransformBlock) (v : ℕ) → 2 ≤ b.log2TrafoSize → b.log2TrafoSize ≤ 5 →
    v < 2 ^ b.log2TrafoSize → Good b v
good b v least most h =
    let log2 : ℕ = b.log2TrafoSize in
    let small = holds_below 32 prefix_is_good prefixes_are_good v (below_32 log2 v least most h) in
    let parts = and_parts (nat_le (first_of_prefix (prefix_of v)) v)
    (nat_lt (v - first_of_prefix (prefix_of v)) (2 ^ suffix_length (prefix_of v))) small in
    let fit = holds_below (2 ^ log2) (prefix_fits log2) (prefixes_fit log2 least most) v h in
    record {
      fits = leb-true (prefix_of v) (2 * log2 - 1) fit;
      from = leb-true (first_of_prefix (prefix_of v)) v parts.0;
      short =
          ltb-true (v - first_of_prefix (prefix_of v)) (2 ^ suffix_length (prefix_of v)) parts.1;
    }

reads_prefix : (table : CtxTable) (b : TransformBlock) (v : ℕ) → Good b v →
    Reads (last_sig_coeff_prefix table b) (last_prefix_bins table b v) (prefix_of v)
reads_prefix table b v g =
    reads_truncated_unary (last_prefix_at table b) (2 * b.log2TrafoSize - 1) 0 (prefix_of v) g.fits

reads_suffix : (b : TransformBlock) (v : ℕ) → Good b v →
    Reads (last_sig_coeff_suffix (prefix_of v)) (last_suffix_bins v)
    (v - first_of_prefix (prefix_of v))
reads_suffix b v g =
    reads_small_number (suffix_length (prefix_of v)) (v - first_of_prefix (prefix_of v)) g.short

-- ---- the position

swapped_twice : (scan : Scan) (p : Position) → swapped_in scan (swapped_in scan p) ≡ p
swapped_twice Diagonal p = refl
swapped_twice Horizontal p = refl
swapped_twice Vertical p = refl

swapped_inside : (scan : Scan) (side : ℕ) (p : Position) → p.x < side → p.y < side →
    ((swapped_in scan p).x < side) × ((swapped_in scan p).y < side)
swapped_inside Diagonal side p xs ys = (xs, ys)
swapped_inside Horizontal side p xs ys = (xs, ys)
swapped_inside Vertical side p xs ys = (ys, xs)

pub reads_last : (b : TransformBlock) (n : ℕ) → 2 ≤ b.log2TrafoSize → b.log2TrafoSize ≤ 5 →
    n < 2 ^ b.log2TrafoSize * 2 ^ b.log2TrafoSize →
    Reads (last_sig_coeff b) (last_bins b n) n
unfolding last_sig_coeff last_bins
reads_last b n least most below =
    let log2 : ℕ = b.log2TrafoSize in
    let scan : Scan = b.scanIdx in
    let i = inside scan log2 n least most below in
    let p : Position = block_position scan log2 n in
    let q : Position = swapped_in scan p in
    let ins = swapped_inside scan (2 ^ log2) p i.x_inside i.y_inside in
    let gx = good b q.x least most ins.0 in
    let gy = good b q.y least most ins.1 in
    let ax : ℕ = prefix_of q.x in
    let ay : ℕ = prefix_of q.y in
    let bx : ℕ = q.x - first_of_prefix ax in
    let by' : ℕ = q.y - first_of_prefix ay in
    let ex : first_of_prefix ax + bx ≡ q.x = omega (arith, gx.from) in
    let ey : first_of_prefix ay + by' ≡ q.y = omega (arith, gy.from) in
    let back : at (first_of_prefix ax + bx) (first_of_prefix ay + by') ≡ q = ap₂ at ex ey in
    let whole : block_number scan log2
    (swapped_in scan (at (first_of_prefix ax + bx) (first_of_prefix ay + by'))) ≡ n =
    ap (λ (r : Position). block_number scan log2 (swapped_in scan r)) back ∙
    (ap (block_number scan log2) (swapped_twice scan p) ∙ i.comes_back) in
    reads_then
    (λ x_prefix. last_sig_coeff_prefix LastY b >>= λ y_prefix.
    last_sig_coeff_suffix x_prefix >>= λ x_suffix.
    last_sig_coeff_suffix y_prefix >>= λ y_suffix.
    Done (block_number scan log2 (swapped_in scan
    (at (first_of_prefix x_prefix + x_suffix) (first_of_prefix y_prefix + y_suffix)))))
    (reads_prefix LastX b q.x gx)
    (reads_then
    (λ y_prefix. last_sig_coeff_suffix ax >>= λ x_suffix.
    last_sig_coeff_suffix y_prefix >>= λ y_suffix.
    Done (block_number scan log2 (swapped_in scan
    (at (first_of_prefix ax + x_suffix) (first_of_prefix y_prefix + y_suffix)))))
    (reads_prefix LastY b q.y gy)
    (reads_then
    (λ x_suffix. last_sig_coeff_suffix ay >>= λ y_suffix.
    Done (block_number scan log2 (swapped_in scan
    (at (first_of_prefix ax + x_suffix) (first_of_prefix ay + y_suffix)))))
    (reads_suffix b q.x gx)
    (reads_value
    (reads_map
    (λ y_suffix. block_number scan log2 (swapped_in scan
    (at (first_of_prefix ax + bx) (first_of_prefix ay + y_suffix))))
    (reads_suffix b q.y gy))
    whole)))
