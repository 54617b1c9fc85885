-- How the rows of a block are put among samples.
use Rattle.std.proofs.Common.{◌≡◌, ℕ, ◌+◌, ◌-◌, ◌*◌, ◌^◌, ◌<◌, ◌≤◌, true, false, cond, List, length, take, drop, get_or, sym, ap, ◌∙◌, arith, ◌⊎◌, inl, inr}
use Rattle.std.specs.Prelude.{nat_lt, ◌&&◌, slice_index_or, Some}
use Rattle.std.proofs.lemmas.Bool.{cases_lt}
use Rattle.std.proofs.lemmas.Bool.Decides.{nat_tests}
use Rattle.std.proofs.lemmas.Grind.{common_steps}
use Rattle.std.proofs.lemmas.Option.{slice_get-get_or}
use Rattle.std.proofs.Math.Nat.{mul-le-mul_right, add-mul}
use Rattle.hv_recon_model.specs.Reconstruction.{square_at, is_in}
use Rattle.hv_recon_model.specs.SeenSamples.{by_rows, IsPut}
use Rattle.hv_recon.specs.Rows.{with_row}

-- ---- one row

pub long_row : (l row : List ℕ) (from : ℕ) → from + length row ≤ length l →
    length (with_row l from row) ≡ length l
long_row l row from fits = grind (arith, common_steps, fits)

pub before_row : (l row : List ℕ) (from i : ℕ) → from + length row ≤ length l → i < from →
    get_or (with_row l from row) i 0 ≡ get_or l i 0
before_row l row from i fits below = grind (arith, common_steps, fits, below)

behind_row : (l row : List ℕ) (from i : ℕ) → from + length row ≤ length l → from + length row ≤ i →
    get_or (with_row l from row) i 0 ≡ get_or l i 0
behind_row l row from i fits above = grind (arith, common_steps, fits, above)

pub in_row : (l row : List ℕ) (from j : ℕ) → from + length row ≤ length l → j < length row →
    get_or (with_row l from row) (from + j) 0 ≡ get_or row j 0
in_row l row from j fits below = grind (arith, common_steps, fits, below)

-- so many rows of a block are put
pub record AreRowsPut (side x y log2 rows : ℕ) (block old new : List ℕ) : Type 0 where
  pub sample :
      (p q : ℕ) → p < side → q < side →
      by_rows side new p q ≡
      cond (is_in (square_at x y log2) p q && nat_lt q (y + rows))
      (Some (slice_index_or block ((q - y) * 2 ^ log2 + (p - x)) 0)) (by_rows side old p q)

-- where a row of the block ends among the samples
pub row_fits : (side x y r n count : ℕ) → x + n ≤ side → y + r < side → count ≡ side * side →
    (y + r) * side + x + n ≤ count
row_fits side x y r n count across down whole =
    let rows : (y + r + 1) * side ≤ side * side = mul-le-mul_right side (omega (arith, down)) in
    omega (arith, rows, add-mul (y + r) 1 side, across, whole)

pub place_inside : (side p q count : ℕ) → p < side → q < side → count ≡ side * side →
    q * side + p < count
place_inside side p q count across down whole =
    let rows : (q + 1) * side ≤ side * side = mul-le-mul_right side (omega (arith, down)) in
    omega (arith, rows, add-mul q 1 side, across, whole)

-- ---- one row more

module _ (side x y log2 r : ℕ) (block old mid row : List ℕ) (across : x + 2 ^ log2 ≤ side)
    (down : y + 2 ^ log2 ≤ side) (one : r < 2 ^ log2) (whole : length mid ≡ side * side)
    (long : length row ≡ 2 ^ log2)
    (same : (j : ℕ) → j < 2 ^ log2 → get_or row j 0 ≡ get_or block (r * 2 ^ log2 + j) 0)
    (put : AreRowsPut side x y log2 r block old mid) where
  from : ℕ
  from = (y + r) * side + x

  new : List ℕ
  new = with_row mid from row

  fits : from + length row ≤ length mid
  unfolding from
  fits =
      omega (
        arith,
        long,
        row_fits side x y r (2 ^ log2) (length mid) across
            (omega (arith, one, down)) whole,
      )

  count : length new ≡ side * side
  unfolding new
  count = long_row mid row from fits ∙ whole

  abbrev Shown : ℕ → ℕ → ℕ → List ℕ → Type 0
  Shown rows p q samples =
      by_rows side samples p q ≡
      cond (is_in (square_at x y log2) p q && nat_lt q (y + rows))
      (Some (slice_index_or block ((q - y) * 2 ^ log2 + (p - x)) 0)) (by_rows side old p q)

  module _ (p q : ℕ) (inside_p : p < side) (inside_q : q < side) where
    new_at : by_rows side new p q ≡ Some (get_or new (q * side + p) 0)
    new_at =
        slice_get-get_or new (q * side + p) 0
        (place_inside side p q (length new) inside_p inside_q count)

    mid_at : by_rows side mid p q ≡ Some (get_or mid (q * side + p) 0)
    mid_at =
        slice_get-get_or mid (q * side + p) 0
        (place_inside side p q (length mid) inside_p inside_q whole)

    kept : get_or new (q * side + p) 0 ≡ get_or mid (q * side + p) 0 →
        is_in (square_at x y log2) p q && nat_lt q (y + r) ≡
        is_in (square_at x y log2) p q && nat_lt q (y + (r + 1)) →
        Shown (r + 1) p q new
    kept stays test =
        new_at ∙ ap Some stays ∙ sym mid_at ∙ put.sample p q inside_p inside_q ∙
        ap (λ t. cond t (Some (slice_index_or block ((q - y) * 2 ^ log2 + (p - x)) 0))
        (by_rows side old p q)) test

    before : q * side + p < from → get_or new (q * side + p) 0 ≡ get_or mid (q * side + p) 0
    unfolding new
    before below = before_row mid row from (q * side + p) fits below

    behind : from + 2 ^ log2 ≤ q * side + p →
        get_or new (q * side + p) 0 ≡ get_or mid (q * side + p) 0
    unfolding new
    behind above = behind_row mid row from (q * side + p) fits (omega (arith, above, long))

    earlier : q < y + r → Shown (r + 1) p q new
    unfolding from
    earlier above =
        let rows : (q + 1) * side ≤ (y + r) * side = mul-le-mul_right side (omega (arith, above)) in
        let test : nat_lt q (y + r) ≡ nat_lt q (y + (r + 1)) = grind (arith, nat_tests, above) in
        kept (before (omega (arith, rows, add-mul q 1 side, inside_p)))
        (ap (λ t. is_in (square_at x y log2) p q && t) test)

    later : y + r < q → Shown (r + 1) p q new
    unfolding from
    later below =
        let rows : (y + r + 1) * side ≤ q * side = mul-le-mul_right side (omega (arith, below)) in
        let test : nat_lt q (y + r) ≡ nat_lt q (y + (r + 1)) = grind (arith, nat_tests, below) in
        kept (behind (omega (arith, rows, add-mul (y + r) 1 side, across)))
        (ap (λ t. is_in (square_at x y log2) p q && t) test)

    beside : p < x ⊎ x + 2 ^ log2 ≤ p → q ≡ y + r → Shown (r + 1) p q new
    unfolding from
    beside (inl left) here =
        let off : is_in (square_at x y log2) p q ≡ false = grind (arith, nat_tests, left) in
        kept (before (rw here (omega (arith, left))))
        (ap (λ t. t && nat_lt q (y + r)) off ∙
        sym (ap (λ t. t && nat_lt q (y + (r + 1))) off))
    beside (inr right) here =
        let off : is_in (square_at x y log2) p q ≡ false = grind (arith, nat_tests, right) in
        kept (behind (rw here (omega (arith, right))))
        (ap (λ t. t && nat_lt q (y + r)) off ∙
        sym (ap (λ t. t && nat_lt q (y + (r + 1))) off))

    inside : x ≤ p → p < x + 2 ^ log2 → q ≡ y + r → Shown (r + 1) p q new
    unfolding from new
    inside right left here =
        let j : ℕ = p - x in
        let small : j < 2 ^ log2 = omega (arith, right, left) in
        let place : q * side + p ≡ from + j = rw here (omega (arith, right)) in
        let test :
        is_in (square_at x y log2) p q && nat_lt q (y + (r + 1)) ≡ true =
        grind (arith, nat_tests, right, left, here, one) in
        let r_is : r ≡ q - y = omega (arith, here) in
        new_at ∙
        ap Some (ap (λ i. get_or new i 0) place ∙
        in_row mid row from j fits (omega (arith, small, long)) ∙ same j small ∙
        ap (λ k. get_or block (k * 2 ^ log2 + j) 0) r_is) ∙
        sym (ap (λ t. cond t (Some (slice_index_or block ((q - y) * 2 ^ log2 + (p - x)) 0))
        (by_rows side old p q)) test)

    shown : Shown (r + 1) p q new
    shown = elim (cases_lt q (y + r)) [
      | inl above ↦ earlier above
      | inr not_above ↦ elim (cases_lt (y + r) q) [
        | inl below ↦ later below
        | inr not_below ↦
            let here : q ≡ y + r = omega (arith, not_above, not_below) in
            elim (cases_lt p x) [
              | inl left ↦ beside (inl left) here
              | inr from_x ↦ elim (cases_lt p (x + 2 ^ log2)) [
                | inl in_it ↦ inside from_x in_it here
                | inr right ↦ beside (inr right) here
              ]
            ]
      ]
    ]

  pub row_put : AreRowsPut side x y log2 (r + 1) block old (with_row mid ((y + r) * side + x) row)
  unfolding from new
  row_put = record { sample = λ p q inside_p inside_q. shown p q inside_p inside_q }

-- none, and all

pub none_put : (side x y log2 : ℕ) (block old : List ℕ) →
    AreRowsPut side x y log2 0 block old old
none_put side x y log2 block old = record {
  sample = λ p q inside_p inside_q.
      let test : is_in (square_at x y log2) p q && nat_lt q (y + 0) ≡ false =
      grind (arith, nat_tests) in
      sym (ap (λ t. cond t (Some (slice_index_or block ((q - y) * 2 ^ log2 + (p - x)) 0))
      (by_rows side old p q)) test);
}

pub all_put : (side x y log2 rows : ℕ) (block old new : List ℕ) → rows ≡ 2 ^ log2 →
    AreRowsPut side x y log2 rows block old new → IsPut side x y log2 block old new
all_put side x y log2 rows block old new all put = record {
  sample = λ p q inside_p inside_q.
      let test :
      is_in (square_at x y log2) p q && nat_lt q (y + rows) ≡ is_in (square_at x y log2) p q =
      grind (arith, nat_tests, all) in
      put.sample p q inside_p inside_q ∙
      ap (λ t. cond t (Some (slice_index_or block ((q - y) * 2 ^ log2 + (p - x)) 0))
      (by_rows side old p q)) test;
}

-- ---- the rows of a block

abbrev pub row_of_block : List ℕ → ℕ → ℕ → List ℕ
row_of_block block n r = take (r * n + n - r * n) (drop (r * n) block)

pub row_ends : (n r count : ℕ) → r < n → count ≡ n * n → r * n + n ≤ count
row_ends n r count below whole =
    let rows : (r + 1) * n ≤ n * n = mul-le-mul_right n (omega (arith, below)) in
    omega (arith, rows, add-mul r 1 n, whole)

pub length-row_of_block : (block : List ℕ) (n r : ℕ) → r < n → length block ≡ n * n →
    length (row_of_block block n r) ≡ n
length-row_of_block block n r below whole =
    let ends = row_ends n r (length block) below whole in
    grind (arith, common_steps, ends)

pub row_sample : (block : List ℕ) (n r j : ℕ) → j < n →
    get_or (row_of_block block n r) j 0 ≡ get_or block (r * n + j) 0
row_sample block n r j small = grind (arith, common_steps, small)
