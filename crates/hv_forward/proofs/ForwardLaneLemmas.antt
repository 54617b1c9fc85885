-- Two passes in lanes give the coefficients of the definition, and these have 16 bits.
use Rattle.std.proofs.Common.{List, ap, ap₂, arith, length, negsuc, pos, refl, subst, sym, ℕ, ℤ, ◌%◌, ◌*ℤ◌, ◌*◌, ◌+◌, ◌-◌, ◌/◌, ◌<◌, ◌^◌, ◌∙◌, ◌≡◌, ◌≤◌}
use Rattle.hv_tables.specs.Tables.{HasEntries}
use Rattle.hv_tables.specs.TransformMatrix.{transMatrix}
use Rattle.hv_lanes.specs.Passes.{AreWithin, HasFirst, table_row}
use Rattle.hv_lanes.specs.Lanes.{HasPairs, Numbers, at, in_pairs}
use Rattle.hv_forward.specs.Forward.{columns_mean, entry_sum, line_of, row_sum, rows_mean}
use Rattle.std.specs.Int.RustNames.{unsigned_abs}
use Rattle.std.proofs.lemmas.Int.{clamps, ints}
use Rattle.hv_lemmas.specs.Clipping.{clip16}
use Rattle.hv_sample_model.specs.Blocks.{at_place}
use Rattle.hv_sample_model.specs.Quantisation.{coefficient, rounded, row_coefficient, transformed}
use Rattle.hv_lanes.proofs.NumberLemmas.{size_of_rounded}
use Rattle.hv_forward.proofs.SizeLemmas.{shifts_suffice}
use Rattle.hv_lanes.proofs.PlaceLemmas.{column_of_place, place_inside, row_of_place}
use Rattle.hv_forward.proofs.FoldLemmas.{row_sum_small}
use Rattle.hv_lanes.proofs.SumLemmas.{sum_of_same}
use Rattle.std.proofs.lemmas.Nat.{pow_pos}
use Rattle.hv_lanes.proofs.SquareLemmas.{column_below, row_below, square_is}
use Rattle.hv_lanes.proofs.PartLemmas.{clip_fits, numbers_by}
use mir.Syntax.{w16}
use mir.Val.{SFits}

pub record ForwardLanes (log2 : ℕ) (residual halfway : List ℤ) (rows matrix : List (List ℤ)) (coefficients : List ℤ) : Type 0 where
  pub range : AreWithin (2 ^ log2 * 2 ^ log2) 255 residual
  pub entries : HasEntries (2 ^ log2) (transMatrix log2) matrix
  pub first : HasFirst (2 ^ log2 * 2 ^ log2) (rows_mean log2 residual (log2 - 1)) halfway
  pub woven : HasPairs 0 (2 ^ log2) (2 ^ log2) halfway rows
  pub second : HasFirst (2 ^ log2 * 2 ^ log2) (columns_mean (2 ^ log2) matrix rows (log2 + 6)) coefficients
  pub whole : length coefficients ≡ 2 ^ log2 * 2 ^ log2

nearest : (z : ℤ) → unsigned_abs z ≤ 32640 → clip16 z ≡ z
nearest (pos n) h = omega (arith, ints, clamps, h)
nearest (negsuc n) h = omega (arith, ints, clamps, h)

row_small : (log2 : ℕ) (residual : List ℤ) (u y : ℕ) → 2 ≤ log2 → log2 ≤ 5 → u < 2 ^ log2 → y < 2 ^ log2 → AreWithin (2 ^ log2 * 2 ^ log2) 255 residual → unsigned_abs (row_coefficient log2 (at_place log2 residual) u y) ≤ 32640
row_small log2 residual u y least greatest across down within =
    let n : ℕ = 2 ^ log2 in
    let size : unsigned_abs (row_sum log2 (line_of n residual y) u) ≤ 64 * n * 255 =
    row_sum_small log2 u 255 (line_of n residual y) least greatest across (λ x below. within (y * n + x) (place_inside n y x down below)) in
    size_of_rounded (row_sum log2 (line_of n residual y) u) (log2 - 1) 32640 (omega (arith, least)) (omega (arith, size, (shifts_suffice log2 n least greatest refl).0))

halfway_is : (log2 : ℕ) (residual halfway : List ℤ) (u y : ℕ) → 2 ≤ log2 → log2 ≤ 5 → u < 2 ^ log2 → y < 2 ^ log2 → AreWithin (2 ^ log2 * 2 ^ log2) 255 residual → HasFirst (2 ^ log2 * 2 ^ log2) (rows_mean log2 residual (log2 - 1)) halfway
    → at halfway (y * 2 ^ log2 + u) ≡ row_coefficient log2 (at_place log2 residual) u y
halfway_is log2 residual halfway u y least greatest across down within each =
    let n : ℕ = 2 ^ log2 in
    each (y * n + u) (place_inside n y u down across) ∙
    ap₂ (λ y u. clip16 (rounded (row_sum log2 (line_of n residual y) u) (log2 - 1))) (row_of_place n y u across) (column_of_place n y u across) ∙
    nearest (rounded (row_sum log2 (line_of n residual y) u) (log2 - 1)) (row_small log2 residual u y least greatest across down within)

column_is : (log2 : ℕ) (residual halfway : List ℤ) (rows matrix : List (List ℤ)) (coefficients : List ℤ) (u v : ℕ) → 2 ≤ log2 → log2 ≤ 5 → u < 2 ^ log2 → v < 2 ^ log2 → ForwardLanes log2 residual halfway rows matrix coefficients
    → entry_sum (2 ^ log2) (table_row matrix v) rows u ≡ row_sum log2 (λ y. row_coefficient log2 (at_place log2 residual) u y) v
column_is log2 residual halfway rows matrix coefficients u v least greatest across down h =
    let n : ℕ = 2 ^ log2 in
    sum_of_same n (λ r. at (table_row matrix v) r *ℤ in_pairs rows u r) (λ y. transMatrix log2 v y *ℤ row_coefficient log2 (at_place log2 residual) u y)
    (λ y below.
    ap₂ (λ a b. a *ℤ b) (h.entries.each v y down below)
    (h.woven u y across below ∙ halfway_is log2 residual halfway u y least greatest across below h.range h.first))

coefficient_is : (log2 : ℕ) (residual halfway : List ℤ) (rows matrix : List (List ℤ)) (coefficients : List ℤ) → 2 ≤ log2 → log2 ≤ 5 → ForwardLanes log2 residual halfway rows matrix coefficients
    → (k : ℕ) → k < 2 ^ log2 * 2 ^ log2 → at coefficients k ≡ coefficient log2 (at_place log2 residual) (k % 2 ^ log2) (k / 2 ^ log2)
coefficient_is log2 residual halfway rows matrix coefficients least greatest h k below =
    let n : ℕ = 2 ^ log2 in
    let some : 0 < n = pow_pos log2 in
    h.second k below ∙
    ap (λ s. rounded s (log2 + 6)) (column_is log2 residual halfway rows matrix coefficients (k % n) (k / n) least greatest (column_below n k some) (row_below n k some below) h)

pub forward_is : (log2 : ℕ) (residual halfway : List ℤ) (rows matrix : List (List ℤ)) (coefficients : List ℤ) → 2 ≤ log2 → log2 ≤ 5 → ForwardLanes log2 residual halfway rows matrix coefficients → coefficients ≡ transformed log2 residual
forward_is log2 residual halfway rows matrix coefficients least greatest h =
    square_is log2 (coefficient log2 (at_place log2 residual)) coefficients h.whole (coefficient_is log2 residual halfway rows matrix coefficients least greatest h)

pub forward_within : (log2 : ℕ) (residual halfway : List ℤ) (rows matrix : List (List ℤ)) (coefficients : List ℤ) → 2 ≤ log2 → log2 ≤ 5 → ForwardLanes log2 residual halfway rows matrix coefficients → AreWithin (2 ^ log2 * 2 ^ log2) 32640 coefficients
forward_within log2 residual halfway rows matrix coefficients least greatest h k below =
    let n : ℕ = 2 ^ log2 in
    let some : 0 < n = pow_pos log2 in
    let across : k % n < n = column_below n k some in
    let down : k / n < n = row_below n k some below in
    let sum : ℤ = row_sum log2 (λ y. row_coefficient log2 (at_place log2 residual) (k % n) y) (k / n) in
    let size : unsigned_abs sum ≤ 64 * n * 32640 =
    row_sum_small log2 (k / n) 32640 (λ y. row_coefficient log2 (at_place log2 residual) (k % n) y) least greatest down (λ y less. row_small log2 residual (k % n) y least greatest across less h.range) in
    rw (coefficient_is log2 residual halfway rows matrix coefficients least greatest h k below)
    (size_of_rounded sum (log2 + 6) 32640 (omega arith) (omega (arith, size, (shifts_suffice log2 n least greatest refl).1)))

-- what the first pass writes has 16 bits, and so have pairs of it
pub halfway_numbers : (log2 s n : ℕ) (residual halfway : List ℤ) → length halfway ≤ n → HasFirst n (rows_mean log2 residual s) halfway → Numbers halfway
halfway_numbers log2 s n residual halfway whole each =
    numbers_by n (rows_mean log2 residual s) halfway whole each (λ k. clip_fits (rounded (row_sum log2 (line_of (2 ^ log2) residual (k / 2 ^ log2)) (k % 2 ^ log2)) s))

pub pair_numbers : (n : ℕ) (halfway : List ℤ) (rows : List (List ℤ)) → Numbers halfway → HasPairs 0 n n halfway rows → (u r : ℕ) → u < n → r < n → SFits w16 (in_pairs rows u r)
pair_numbers n halfway rows fits pairs u r across down = subst (SFits w16) (sym (pairs u r across down)) (fits (r * n + u))
