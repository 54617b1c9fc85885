-- Sums of products in lanes are halves of sums over columns.
use Rattle.std.proofs.Common.{List, ap, ap₂, arith, sym, ℕ, ℤ, ◌*ℤ◌, ◌*◌, ◌+ℤ◌, ◌+◌, ◌<◌, ◌∙◌, ◌≡◌}
use Rattle.hv_tables.specs.TransformMatrix.{transMatrix}
use Rattle.hv_transform.specs.Columns.{ColumnSums, HasEven, HasOdd, column_sum, in_order, lane_sum, numbers_from, odd_sum, two_sums}
use Rattle.hv_lanes.proofs.SumLemmas.{chunk, eight_sum, sixteen_sum, sum_of_same}
use Rattle.hv_lanes.specs.Lanes.{FourLanes, in_pairs, weight}
use Rattle.hv_lanes.proofs.FourLaneLemmas.{same_lanes}
use Rattle.hv_transform.proofs.ColumnLaneLemmas.{Odd}

-- the products of an odd half, at place n
abbrev odd_product : ℕ → List (List ℤ) → ℕ → ℕ → ℕ → ℕ → ℤ
odd_product log2 rows i p n k = transMatrix log2 (2 * k + 1) n *ℤ numbers_from rows i p k

odd_chunk : (log2 g q : ℕ) (w : List ℤ) (rows : List (List ℤ)) (i p first j : ℕ) → HasOdd log2 g q w → first ≡ 2 * p + 4 * q → j < 4 → lane_sum w rows i first j ≡ chunk (odd_product log2 rows i p (4 * g + j)) q
odd_chunk log2 g q w rows i p first j has e below =
    sum_of_same 4 (λ r. weight w j r *ℤ in_pairs rows i (first + r)) (λ r. odd_product log2 rows i p (4 * g + j) (4 * q + r))
    (λ r small. ap₂ (λ a b. a *ℤ b) (has j r below small) (ap (in_pairs rows i) (omega (arith, e))))

pub even_lanes : (w : List ℤ) (rows : List (List ℤ)) (i p : ℕ) (v : List ℤ) → HasEven w → FourLanes (lane_sum w rows i (2 * (p + 2))) v → ColumnSums 0 (λ k. numbers_from rows i p (4 + k)) 0 v
even_lanes w rows i p v has h =
    same_lanes (lane_sum w rows i (2 * (p + 2))) (λ j. column_sum 2 (in_order 0 (λ k. numbers_from rows i p (4 + k))) (0 + j)) v
    (λ j below.
    sum_of_same 4 (λ r. weight w j r *ℤ in_pairs rows i (2 * (p + 2) + r)) (λ k. transMatrix 2 k (0 + j) *ℤ numbers_from rows i p (4 + k))
    (λ r small.
    let place : j ≡ 0 + j = omega arith in
    let number : 2 * (p + 2) + r ≡ 2 * p + (4 + r) = omega arith in
    ap₂ (λ a b. a *ℤ b) (has j r below small ∙ ap (transMatrix 2 r) place) (ap (in_pairs rows i) number)))
    h

pub odd_lanes_8 : (w : List ℤ) (rows : List (List ℤ)) (i p : ℕ) (v : List ℤ) → HasOdd 3 0 0 w → FourLanes (lane_sum w rows i (2 * p)) v → Odd 0 (numbers_from rows i p) 0 v
odd_lanes_8 w rows i p v has h =
    same_lanes (lane_sum w rows i (2 * p)) (λ j. odd_sum 2 (numbers_from rows i p) (0 + j)) v
    (λ j below.
    odd_chunk 3 0 0 w rows i p (2 * p) j has (omega arith) below ∙
    sum_of_same 4 (λ r. odd_product 3 rows i p (4 * 0 + j) (4 * 0 + r)) (odd_product 3 rows i p (0 + j))
    (λ r small.
    let place : 4 * 0 + j ≡ 0 + j = omega arith in
    let number : 4 * 0 + r ≡ r = omega arith in
    ap₂ (odd_product 3 rows i p) place number))
    h

pub odd_lanes_16 : (w₀ w₁ : List ℤ) (rows : List (List ℤ)) (i p g : ℕ) (v : List ℤ) → HasOdd 4 g 0 w₀ → HasOdd 4 g 1 w₁ → FourLanes (two_sums w₀ w₁ rows i p) v → Odd 1 (numbers_from rows i p) (4 * g) v
odd_lanes_16 w₀ w₁ rows i p g v has₀ has₁ h =
    same_lanes (two_sums w₀ w₁ rows i p) (λ j. odd_sum 3 (numbers_from rows i p) (4 * g + j)) v
    (λ j below.
    let f : ℕ → ℤ = odd_product 4 rows i p (4 * g + j) in
    ap₂ (λ a b. a +ℤ b)
    (odd_chunk 4 g 0 w₀ rows i p (2 * p) j has₀ (omega arith) below)
    (odd_chunk 4 g 1 w₁ rows i p (2 * (p + 2)) j has₁ (omega arith) below) ∙
    sym (eight_sum f))
    h

pub odd_lanes_32 : (w₀ w₁ w₂ w₃ : List ℤ) (rows : List (List ℤ)) (i p g : ℕ) (v : List ℤ) → HasOdd 5 g 0 w₀ → HasOdd 5 g 1 w₁ → HasOdd 5 g 2 w₂ → HasOdd 5 g 3 w₃ → FourLanes (λ j. two_sums w₀ w₁ rows i p j +ℤ two_sums w₂ w₃ rows i (p + 4) j) v → Odd 2 (numbers_from rows i p) (4 * g) v
odd_lanes_32 w₀ w₁ w₂ w₃ rows i p g v has₀ has₁ has₂ has₃ h =
    same_lanes (λ j. two_sums w₀ w₁ rows i p j +ℤ two_sums w₂ w₃ rows i (p + 4) j) (λ j. odd_sum 4 (numbers_from rows i p) (4 * g + j)) v
    (λ j below.
    let f : ℕ → ℤ = odd_product 5 rows i p (4 * g + j) in
    ap₂ (λ a b. a +ℤ b)
    (ap₂ (λ a b. a +ℤ b)
    (odd_chunk 5 g 0 w₀ rows i p (2 * p) j has₀ (omega arith) below)
    (odd_chunk 5 g 1 w₁ rows i p (2 * (p + 2)) j has₁ (omega arith) below))
    (ap₂ (λ a b. a +ℤ b)
    (odd_chunk 5 g 2 w₂ rows i p (2 * (p + 4)) j has₂ (omega arith) below)
    (odd_chunk 5 g 3 w₃ rows i p (2 * (p + 4 + 2)) j has₃ (omega arith) below)) ∙
    sym (sixteen_sum f))
    h
