-- Two passes in lanes give the residual of the definition.
use Rattle.hv_lanes.proofs.PartLemmas.{clip_fits}
use Rattle.std.proofs.Common.{List, ap, ap₂, arith, length, negsuc, pos, subst, sym, ℕ, ℤ, ◌%◌, ◌*ℤ◌, ◌*◌, ◌+◌, ◌/◌, ◌<◌, ◌^◌, ◌∙◌, ◌≡◌, ◌≤◌}
use mir.Syntax.{w16}
use mir.Val.{SFits}
use Rattle.hv_sample_model.specs.Quantisation.{rounded}
use Rattle.hv_transform.specs.Columns.{HaveBits, column_mean, column_sum, in_order, numbers_from, pass_mean}
use Rattle.hv_lanes.specs.Lanes.{HasPairs, Numbers, at, in_pairs, place}
use Rattle.hv_sample_model.specs.Blocks.{at_place}
use Rattle.hv_sample_model.specs.InverseTransform.{column_sample, inverse_sample, inverse_transformed}
use Rattle.hv_lanes.specs.Passes.{HasFirst}
use Rattle.hv_transform.proofs.OrderLemmas.{in_order_is}
use Rattle.hv_tables.specs.TransformMatrix.{transMatrix}
use Rattle.hv_lanes.proofs.SumLemmas.{sum_of_same}
use Rattle.std.proofs.lemmas.Bool.{cases_lt}
use mathlib.Core.Logic.{⊎_elim}
use Rattle.hv_lemmas.specs.Clipping.{clip16}
use Rattle.hv_lanes.proofs.PlaceLemmas.{column_of_place, place_inside, row_of_place}
use Rattle.std.specs.Int.RustNames.{unsigned_abs}
use Rattle.hv_lanes.proofs.NumberLemmas.{size_of_clipped, size_of_rounded}
use Rattle.std.proofs.lemmas.Int.{clamps, ints}
use Rattle.std.proofs.lemmas.Nat.{pow_pos}
use Rattle.hv_transform.proofs.MeanLemmas.{column_small}
use Rattle.hv_lanes.proofs.SquareLemmas.{column_below, row_below, square_is}

pub mean_fits : (d : ℕ) (rows : List (List ℤ)) (s k : ℕ) → SFits w16 (pass_mean d rows s k)
mean_fits d rows s k = clip_fits (rounded (column_sum (d + 2) (in_order d (numbers_from rows (k / 2 ^ (d + 2)) 0)) (k % 2 ^ (d + 2))) s)

pub bits_of_pairs : (d n columns : ℕ) (block : List ℤ) (rows : List (List ℤ)) → Numbers block → HasPairs d n columns block rows → (i : ℕ) → i < columns → HaveBits n rows i 0
bits_of_pairs d n columns block rows fits pairs i across r down =
    let here : 0 + r ≡ r = omega arith in
    subst (λ q. SFits w16 (in_pairs rows i q)) (sym here) (subst (SFits w16) (sym (pairs i r across down)) (fits (place d r * n + i)))

pub record InverseLanes (d columns : ℕ) (coefficients block : List ℤ) (rows : List (List ℤ)) (halfway : List ℤ) (turned : List (List ℤ)) (residual : List ℤ) : Type 0 where
  pub narrowed : HasFirst (2 ^ (d + 2) * 2 ^ (d + 2)) (at coefficients) block
  pub woven : HasPairs d (2 ^ (d + 2)) columns block rows
  pub first : (i j : ℕ) → i < columns → j < 2 ^ (d + 2) → at halfway (i * 2 ^ (d + 2) + j) ≡ column_mean d (numbers_from rows i 0) 7 j
  pub others : (i j : ℕ) → columns ≤ i → i < 2 ^ (d + 2) → j < 2 ^ (d + 2) → at halfway (i * 2 ^ (d + 2) + j) ≡ column_sample (d + 2) (at_place (d + 2) coefficients) i j
  pub woven_again : HasPairs d (2 ^ (d + 2)) (2 ^ (d + 2)) halfway turned
  pub second : HasFirst (2 ^ (d + 2) * 2 ^ (d + 2)) (pass_mean d turned 12) residual
  pub whole : length residual ≡ 2 ^ (d + 2) * 2 ^ (d + 2)

-- a column of what was woven is one of the block
column_is : (d columns i : ℕ) (block : List ℤ) (rows : List (List ℤ)) → HasPairs d (2 ^ (d + 2)) columns block rows → i < columns → (k : ℕ) → k < 2 ^ (d + 2) → in_order d (numbers_from rows i 0) k ≡ at block (k * 2 ^ (d + 2) + i)
column_is d columns i block rows pairs across k below =
    in_order_is d (numbers_from rows i 0) (λ k. at block (k * 2 ^ (d + 2) + i))
    (λ r down.
    let here : 0 + r ≡ r = omega arith in
    ap (in_pairs rows i) here ∙ pairs i r across down)
    k below

-- and so are its sums
sums_are : (d columns i n : ℕ) (block : List ℤ) (rows : List (List ℤ)) (f : ℕ → ℤ) → HasPairs d (2 ^ (d + 2)) columns block rows → i < columns → ((k : ℕ) → k < 2 ^ (d + 2) → at block (k * 2 ^ (d + 2) + i) ≡ f k)
    → column_sum (d + 2) (in_order d (numbers_from rows i 0)) n ≡ column_sum (d + 2) f n
sums_are d columns i n block rows f pairs across each =
    sum_of_same (2 ^ (d + 2)) (λ k. transMatrix (d + 2) k n *ℤ in_order d (numbers_from rows i 0) k) (λ k. transMatrix (d + 2) k n *ℤ f k)
    (λ k below. ap (λ z. transMatrix (d + 2) k n *ℤ z) (column_is d columns i block rows pairs across k below ∙ each k below))

halfway_is : (d columns : ℕ) (coefficients block : List ℤ) (rows : List (List ℤ)) (halfway : List ℤ) (turned : List (List ℤ)) (residual : List ℤ) → columns ≤ 2 ^ (d + 2) → InverseLanes d columns coefficients block rows halfway turned residual
    → (i j : ℕ) → i < 2 ^ (d + 2) → j < 2 ^ (d + 2) → at halfway (i * 2 ^ (d + 2) + j) ≡ column_sample (d + 2) (at_place (d + 2) coefficients) i j
halfway_is d columns coefficients block rows halfway turned residual few h i j across down =
    ⊎_elim
    (λ (inside : i < columns).
    h.first i j inside down ∙
    ap (λ s. clip16 (rounded s 7))
    (sums_are d columns i j block rows (λ k. at_place (d + 2) coefficients i k) h.woven inside
    (λ k below. h.narrowed (k * 2 ^ (d + 2) + i) (place_inside (2 ^ (d + 2)) k i below across))))
    (λ (outside : columns ≤ i). h.others i j outside across down)
    (cases_lt i columns)

sample_small : (log2 : ℕ) (coefficient : ℕ → ℕ → ℤ) (x y : ℕ) → unsigned_abs (column_sample log2 coefficient x y) ≤ 32768
sample_small log2 coefficient x y = size_of_clipped (rounded (column_sum log2 (coefficient x) y) 7)

within_bits : (z : ℤ) → unsigned_abs z ≤ 16384 → clip16 z ≡ z
within_bits (pos n) h = omega (arith, ints, clamps, h)
within_bits (negsuc n) h = omega (arith, ints, clamps, h)

pub inverse_is : (d columns : ℕ) (coefficients block : List ℤ) (rows : List (List ℤ)) (halfway : List ℤ) (turned : List (List ℤ)) (residual : List ℤ) → d ≤ 3 → columns ≤ 2 ^ (d + 2) → InverseLanes d columns coefficients block rows halfway turned residual
    → residual ≡ inverse_transformed (d + 2) coefficients
inverse_is d columns coefficients block rows halfway turned residual small few h =
    let n : ℕ = 2 ^ (d + 2) in
    let some : 0 < n = pow_pos (d + 2) in
    let coefficient : ℕ → ℕ → ℤ = at_place (d + 2) coefficients in
    square_is (d + 2) (inverse_sample (d + 2) coefficient) residual h.whole
    (λ k below.
    let x : ℕ = k % n in
    let y : ℕ = k / n in
    let across : x < n = column_below n k some in
    let down : y < n = row_below n k some below in
    let column : ℕ → ℤ = λ u. column_sample (d + 2) coefficient u y in
    let sum : ℤ = column_sum (d + 2) column x in
    let size : unsigned_abs sum ≤ 67108864 = column_small (d + 2) x column (omega arith) (omega (arith, small)) across (λ u less. sample_small (d + 2) coefficient u y) in
    let bits : unsigned_abs (rounded sum 12) ≤ 16384 = size_of_rounded sum 12 16384 (omega arith) (omega (arith, size)) in
    h.second k below ∙
    ap (λ s. clip16 (rounded s 12))
    (sums_are d n y x halfway turned column h.woven_again down (λ u less. halfway_is d columns coefficients block rows halfway turned residual few h u y less down)) ∙
    within_bits (rounded sum 12) bits)

-- what a pass wrote, by columns and places
pub pass_at : (d s count i j : ℕ) (rows : List (List ℤ)) (out : List ℤ) → HasFirst count (pass_mean d rows s) out → i * 2 ^ (d + 2) + j < count → j < 2 ^ (d + 2) → at out (i * 2 ^ (d + 2) + j) ≡ column_mean d (numbers_from rows i 0) s j
pass_at d s count i j rows out each inside below =
    let n : ℕ = 2 ^ (d + 2) in
    each (i * n + j) inside ∙
    ap₂ (λ y x. column_mean d (numbers_from rows y 0) s x) (row_of_place n i j below) (column_of_place n i j below)
