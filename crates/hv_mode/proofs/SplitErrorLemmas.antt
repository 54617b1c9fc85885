-- The squared differences at a node are those at its four parts, and what is decoded in a square
-- changes none beside it.
use Rattle.std.proofs.Common.{◌≡◌, ℕ, zero, suc, ◌+◌, ◌-◌, ◌*◌, ◌/◌, ◌%◌, ◌^◌, ◌<◌, sym, ap, ◌∙◌, arith}
use Rattle.hv_types.specs.declared.picture.Picture.{Picture}
use Rattle.hv_types.specs.Samples.{Plane, sample_at}
use Rattle.hv_sample_model.specs.Blocks.{total_of}
use Rattle.hv_sample_model.proofs.SumLemmas.{total_of_same}
use Rattle.hv_tree_model.specs.Trees.{side}
use Rattle.hv_recon_model.specs.Reconstruction.{Component, Decoded, square_at, sample_of}
use Rattle.hv_recon_model.proofs.BesideLemmas.{LiesBeside, KeepBeside, sides}
use Rattle.hv_mode_model.specs.ModeDecision.{squared_difference, squared_errors}

-- ---- sums over squares

halves : (m n : ℕ) (f : ℕ → ℕ) →
    total_of (m + n) f ≡ total_of m f + total_of n (λ i. f (m + i))
unfolding total_of
halves m zero f =
    let whole : m + 0 ≡ m = omega arith in ap (λ k. total_of k f) whole ∙ omega arith
halves m (suc n) f =
    let more : m + suc n ≡ suc (m + n) = omega arith in
    ap (λ k. total_of k f) more ∙ omega (arith, halves m n f)

sum_of_totals : (n : ℕ) (f g : ℕ → ℕ) →
    total_of n (λ i. f i + g i) ≡ total_of n f + total_of n g
unfolding total_of
sum_of_totals zero f g = omega arith
sum_of_totals (suc n) f g = omega (arith, sum_of_totals n f g)

abbrev area : (ℕ → ℕ → ℕ) → ℕ → ℕ → ℕ → ℕ
area f x y n = total_of n (λ j. total_of n (λ i. f (x + i) (y + j)))

module _ (f : ℕ → ℕ → ℕ) (x y m : ℕ) where
  -- the parts of a row, and of all rows
  abbrev part : ℕ → ℕ → ℕ
  part u v = total_of m (λ i. f (u + i) v)

  row : (v : ℕ) → total_of (m + m) (λ i. f (x + i) v) ≡ part x v + part (x + m) v
  row v =
      halves m m (λ i. f (x + i) v) ∙
      ap (λ t. part x v + t)
      (total_of_same m (λ i. f (x + (m + i)) v) (λ i. f (x + m + i) v) (λ i below.
      let place : x + (m + i) ≡ x + m + i = omega arith in ap (λ u. f u v) place))

  column : (u : ℕ) → total_of (m + m) (λ j. part u (y + j)) ≡ area f u y m + area f u (y + m) m
  column u =
      halves m m (λ j. part u (y + j)) ∙
      ap (λ t. area f u y m + t)
      (total_of_same m (λ j. part u (y + (m + j))) (λ j. part u (y + m + j)) (λ j below.
      let place : y + (m + j) ≡ y + m + j = omega arith in ap (λ v. part u v) place))

  doubled : area f x y (m + m) ≡
      area f x y m + area f (x + m) y m + (area f x (y + m) m + area f (x + m) (y + m) m)
  doubled =
      total_of_same (m + m) (λ j. total_of (m + m) (λ i. f (x + i) (y + j)))
      (λ j. part x (y + j) + part (x + m) (y + j)) (λ j below. row (y + j)) ∙
      sum_of_totals (m + m) (λ j. part x (y + j)) (λ j. part (x + m) (y + j)) ∙
      omega (arith, column x, column (x + m))

four_areas : (f : ℕ → ℕ → ℕ) (x y m n u v : ℕ) → n ≡ m + m → u ≡ x + m → v ≡ y + m →
    area f x y n ≡ area f x y m + area f u y m + (area f x v m + area f u v m)
four_areas f x y m n u v double right below =
    ap (λ k. area f x y k) double ∙ doubled f x y m ∙
    sym (λ i. area f x y m + area f (right i) y m +
    (area f x (below i) m + area f (right i) (below i) m))

-- ---- the parts of a node

abbrev pub errors_at : Picture → Decoded → ℕ → ℕ → ℕ → ℕ
errors_at input d size x y = squared_errors input d (square_at x y (size + 3))

-- those of two samples in a column and row of a component
abbrev difference_at : Plane → Component → ℕ → ℕ → ℕ
difference_at plane samples u v =
    squared_difference (sample_at plane u v) (sample_of (samples u v))

pub errors_of_parts : (input : Picture) (d : Decoded) (size x y : ℕ) →
    errors_at input d (suc size) x y ≡
    errors_at input d size x y + errors_at input d size (x + side size) y +
    (errors_at input d size x (y + side size) +
    errors_at input d size (x + side size) (y + side size))
unfolding squared_errors
errors_of_parts input d size x y =
    let s = sides size in
    let t = sides (suc size) in
    let halved : (z : ℕ) → (z + side size) / 2 ≡ z / 2 + 4 * 2 ^ size = λ z. omega arith in
    let power : 2 ^ suc size ≡ 2 * 2 ^ size = omega (arith, s.1, t.2) in
    let luma = four_areas (difference_at input.luma d.luma) x y (2 ^ (size + 3))
    (2 ^ (suc size + 3)) (x + side size) (y + side size) (omega (arith, s.0, t.0, power))
    (omega (arith, s.0)) (omega (arith, s.0)) in
    let chroma : (plane : Plane) (samples : Component) →
    area (difference_at plane samples) (x / 2) (y / 2) (2 ^ (suc size + 3 - 1)) ≡
    area (difference_at plane samples) (x / 2) (y / 2) (2 ^ (size + 3 - 1)) +
    area (difference_at plane samples) ((x + side size) / 2) (y / 2) (2 ^ (size + 3 - 1)) +
    (area (difference_at plane samples) (x / 2) ((y + side size) / 2) (2 ^ (size + 3 - 1)) +
    area (difference_at plane samples) ((x + side size) / 2) ((y + side size) / 2)
    (2 ^ (size + 3 - 1))) =
    λ plane samples. four_areas (difference_at plane samples) (x / 2) (y / 2) (2 ^ (size + 3 - 1))
    (2 ^ (suc size + 3 - 1)) ((x + side size) / 2) ((y + side size) / 2)
    (omega (arith, s.1, t.1, power)) (omega (arith, s.1, halved x)) (omega (arith, s.1, halved y))
    in
    let cb = chroma input.cb d.cb in let cr = chroma input.cr d.cr in omega (arith, luma, cb, cr)

-- ---- beside a square

-- a square at a corner, all of it beside another one
pub record IsBeside (left top n x y m : ℕ) : Type 0 where
  pub place : (i j : ℕ) → i < m → j < m → LiesBeside left top n (x + i) (y + j)

same_area : (plane : Plane) (before behind : Component) (x y n : ℕ) →
    ((i j : ℕ) → i < n → j < n → behind (x + i) (y + j) ≡ before (x + i) (y + j)) →
    area (difference_at plane behind) x y n ≡ area (difference_at plane before) x y n
same_area plane before behind x y n same =
    total_of_same n (λ j. total_of n (λ i. difference_at plane behind (x + i) (y + j)))
    (λ j. total_of n (λ i. difference_at plane before (x + i) (y + j))) (λ j down.
    total_of_same n (λ i. difference_at plane behind (x + i) (y + j))
    (λ i. difference_at plane before (x + i) (y + j)) (λ i across.
    ap (λ o. squared_difference (sample_at plane (x + i) (y + j)) (sample_of o))
    (same i j across down)))

pub errors_beside : (input : Picture) (d e : Decoded) (left top n size x y : ℕ) → x % 2 ≡ 0 →
    y % 2 ≡ 0 → IsBeside left top n x y (side size) → KeepBeside left top n d e →
    errors_at input e size x y ≡ errors_at input d size x y
unfolding squared_errors
errors_beside input d e left top n size x y even_x even_y beside kept =
    let s = sides size in
    let luma = same_area input.luma d.luma e.luma x y (2 ^ (size + 3)) (λ i j across down.
    kept.luma (x + i) (y + j)
    (beside.place i j (omega (arith, across, s.0)) (omega (arith, down, s.0)))) in
    let cb = same_area input.cb d.cb e.cb (x / 2) (y / 2) (2 ^ (size + 3 - 1))
    (λ i j across down. kept.cb (x / 2 + i) (y / 2 + j) (under i j across down)) in
    let cr = same_area input.cr d.cr e.cr (x / 2) (y / 2) (2 ^ (size + 3 - 1))
    (λ i j across down. kept.cr (x / 2 + i) (y / 2 + j) (under i j across down)) in
    omega (arith, luma, cb, cr)
  where
    under : (i j : ℕ) → i < 2 ^ (size + 3 - 1) → j < 2 ^ (size + 3 - 1) →
        LiesBeside left top n (2 * (x / 2 + i)) (2 * (y / 2 + j))
    under i j across down =
        let s = sides size in
        let column : x + 2 * i ≡ 2 * (x / 2 + i) = omega (arith, even_x) in
        let row : y + 2 * j ≡ 2 * (y / 2 + j) = omega (arith, even_y) in
        rw (← column, ← row)
        (beside.place (2 * i) (2 * j) (omega (arith, across, s.1)) (omega (arith, down, s.1)))
