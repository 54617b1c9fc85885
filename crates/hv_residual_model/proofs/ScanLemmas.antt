-- Scans (6.5.3 to 6.5.5) number the positions of a block one to one.
use Rattle.std.proofs.Common.{◌≡◌, ℕ, zero, suc, ◌+◌, ◌-◌, ◌*◌, ◌/◌, ◌%◌, ◌^◌, ◌<◌, ◌≤◌, Bool, true, List, refl, ap, ap₂, ◌∙◌, arith, ltb-true, pow-add}
use Rattle.std.specs.Prelude.{nat_eq, nat_lt, ◌&&◌, slice_index_or}
use Rattle.std.proofs.lemmas.Bool.{and_parts, eqb-true}
use Rattle.hv_lemmas.proofs.ComputedLemmas.{all_below, holds_below}
use Rattle.hv_lemmas.specs.Lists.{tabulate}
use Rattle.hv_plan.specs.declared.prediction.Scan.{Scan}
use Rattle.hv_plan.specs.declared.prediction.Scan.TheVariants.{Diagonal, Horizontal, Vertical}
use Rattle.hv_residual_model.specs.ScanOrder.{Position, at, same_position, scan_order, position_at, number_in, number_of, block_position, block_number}

-- ---- by computing: orders of sides 1 to 8

-- the position of number i is inside, and has this number
abbrev numbers_come_back : List Position → ℕ → ℕ → Bool
numbers_come_back order side i =
    let p = slice_index_or order i (at 0 0) in
    nat_eq (number_in order p) i && (nat_lt p.x side && nat_lt p.y side)

-- the number of a position is below that of all, and has this position
abbrev position_comes_back : List Position → ℕ → ℕ → ℕ → Bool
position_comes_back order side y x =
    let n = number_in order (at x y) in
    nat_lt n (side * side) && same_position (slice_index_or order n (at 0 0)) (at x y)

abbrev row_comes_back : List Position → ℕ → ℕ → Bool
row_comes_back order side y = all_below side (position_comes_back order side y)

abbrev IsOneToOne : Scan → ℕ → Type 0
IsOneToOne scan log2 =
    let side = 2 ^ log2 in
    (all_below (side * side) (numbers_come_back (scan_order scan log2) side) ≡ true) ×
    (all_below side (row_comes_back (scan_order scan log2) side) ≡ true)

diagonal_0 : IsOneToOne Diagonal 0
unfolding scan_order tabulate
diagonal_0 = (refl, refl)

diagonal_1 : IsOneToOne Diagonal 1
unfolding scan_order tabulate
diagonal_1 = (refl, refl)

diagonal_2 : IsOneToOne Diagonal 2
unfolding scan_order tabulate
diagonal_2 = (refl, refl)

diagonal_3 : IsOneToOne Diagonal 3
unfolding scan_order tabulate
diagonal_3 = (refl, refl)

horizontal_0 : IsOneToOne Horizontal 0
unfolding scan_order tabulate
horizontal_0 = (refl, refl)

horizontal_1 : IsOneToOne Horizontal 1
unfolding scan_order tabulate
horizontal_1 = (refl, refl)

horizontal_2 : IsOneToOne Horizontal 2
unfolding scan_order tabulate
horizontal_2 = (refl, refl)

horizontal_3 : IsOneToOne Horizontal 3
unfolding scan_order tabulate
horizontal_3 = (refl, refl)

vertical_0 : IsOneToOne Vertical 0
unfolding scan_order tabulate
vertical_0 = (refl, refl)

vertical_1 : IsOneToOne Vertical 1
unfolding scan_order tabulate
vertical_1 = (refl, refl)

vertical_2 : IsOneToOne Vertical 2
unfolding scan_order tabulate
vertical_2 = (refl, refl)

vertical_3 : IsOneToOne Vertical 3
unfolding scan_order tabulate
vertical_3 = (refl, refl)

one_to_one : (scan : Scan) (log2 : ℕ) → log2 ≤ 3 → IsOneToOne scan log2
one_to_one Diagonal zero h = diagonal_0
one_to_one Diagonal (suc zero) h = diagonal_1
one_to_one Diagonal (suc (suc zero)) h = diagonal_2
one_to_one Diagonal (suc (suc (suc zero))) h = diagonal_3
one_to_one Diagonal (suc (suc (suc (suc n)))) h = absurd (omega arith)
one_to_one Horizontal zero h = horizontal_0
one_to_one Horizontal (suc zero) h = horizontal_1
one_to_one Horizontal (suc (suc zero)) h = horizontal_2
one_to_one Horizontal (suc (suc (suc zero))) h = horizontal_3
one_to_one Horizontal (suc (suc (suc (suc n)))) h = absurd (omega arith)
one_to_one Vertical zero h = vertical_0
one_to_one Vertical (suc zero) h = vertical_1
one_to_one Vertical (suc (suc zero)) h = vertical_2
one_to_one Vertical (suc (suc (suc zero))) h = vertical_3
one_to_one Vertical (suc (suc (suc (suc n)))) h = absurd (omega arith)

-- ---- one scan

pub record Numbered (scan : Scan) (log2 n : ℕ) : Type 0 where
  pub comes_back : number_of scan log2 (position_at scan log2 n) ≡ n
  pub x_inside : (position_at scan log2 n).x < 2 ^ log2
  pub y_inside : (position_at scan log2 n).y < 2 ^ log2

pub numbered : (scan : Scan) (log2 n : ℕ) → log2 ≤ 3 → n < 2 ^ log2 * 2 ^ log2 →
    Numbered scan log2 n
numbered scan log2 n h below =
    let side : ℕ = 2 ^ log2 in
    let order : List Position = scan_order scan log2 in
    let p : Position = slice_index_or order n (at 0 0) in
    let t = holds_below (side * side) (numbers_come_back order side) (one_to_one scan log2 h).0 n
    below in
    let a = and_parts (nat_eq (number_in order p) n) (nat_lt p.x side && nat_lt p.y side) t in
    let c = and_parts (nat_lt p.x side) (nat_lt p.y side) a.1 in
    record {
      comes_back = eqb-true (number_in order p) n a.0;
      x_inside = ltb-true p.x side c.0;
      y_inside = ltb-true p.y side c.1;
    }

pub record Placed (scan : Scan) (log2 x y : ℕ) : Type 0 where
  pub below : number_of scan log2 (at x y) < 2 ^ log2 * 2 ^ log2
  pub same : position_at scan log2 (number_of scan log2 (at x y)) ≡ at x y

pub placed : (scan : Scan) (log2 x y : ℕ) → log2 ≤ 3 → x < 2 ^ log2 → y < 2 ^ log2 →
    Placed scan log2 x y
placed scan log2 x y h xs ys =
    let side : ℕ = 2 ^ log2 in
    let order : List Position = scan_order scan log2 in
    let n : ℕ = number_in order (at x y) in
    let p : Position = slice_index_or order n (at 0 0) in
    let rows = holds_below side (row_comes_back order side) (one_to_one scan log2 h).1 y ys in
    let t = holds_below side (position_comes_back order side y) rows x xs in
    let a = and_parts (nat_lt n (side * side)) (same_position p (at x y)) t in
    let c = and_parts (nat_eq p.x x) (nat_eq p.y y) a.1 in
    record {
      below = ltb-true n (side * side) a.0;
      same = ap₂ at (eqb-true p.x x c.0) (eqb-true p.y y c.1);
    }

-- ---- a whole block of side 2^log2, 4 to 32

sixteen_times : (log2 : ℕ) → 2 ≤ log2 → log2 ≤ 5 →
    2 ^ log2 * 2 ^ log2 ≡ 16 * (2 ^ (log2 - 2) * 2 ^ (log2 - 2))
sixteen_times zero least most = absurd (omega arith)
sixteen_times (suc zero) least most = absurd (omega arith)
sixteen_times (suc (suc zero)) least most = refl
sixteen_times (suc (suc (suc zero))) least most = refl
sixteen_times (suc (suc (suc (suc zero)))) least most = refl
sixteen_times (suc (suc (suc (suc (suc zero))))) least most = refl
sixteen_times (suc (suc (suc (suc (suc (suc n)))))) least most = absurd (omega arith)

four_times : (log2 : ℕ) → 2 ≤ log2 → 2 ^ log2 ≡ 4 * 2 ^ (log2 - 2)
four_times log2 least =
    let e : log2 ≡ 2 + (log2 - 2) = omega arith in
    let f : 2 ^ (2 + (log2 - 2)) ≡ 4 * 2 ^ (log2 - 2) = pow-add 2 2 (log2 - 2) in
    ap (λ (n : ℕ). 2 ^ n) e ∙ f

pub record Inside (scan : Scan) (log2 n : ℕ) : Type 0 where
  pub x_inside : (block_position scan log2 n).x < 2 ^ log2
  pub y_inside : (block_position scan log2 n).y < 2 ^ log2
  pub comes_back : block_number scan log2 (block_position scan log2 n) ≡ n

pub inside : (scan : Scan) (log2 n : ℕ) → 2 ≤ log2 → log2 ≤ 5 → n < 2 ^ log2 * 2 ^ log2 →
    Inside scan log2 n
unfolding block_position block_number
inside scan log2 n least most below =
    let k : ℕ = log2 - 2 in
    let all = sixteen_times log2 least most in
    let side = four_times log2 least in
    let S : Position = position_at scan k (n / 16) in
    let P : Position = position_at scan 2 (n % 16) in
    let few : n / 16 < 2 ^ k * 2 ^ k = omega (arith, all, below) in
    let s = numbered scan k (n / 16) (omega arith) few in
    let p = numbered scan 2 (n % 16) (omega arith) (omega arith) in
    let px : P.x < 4 = p.x_inside in
    let py : P.y < 4 = p.y_inside in
    let outer : at ((4 * S.x + P.x) / 4) ((4 * S.y + P.y) / 4) ≡ S =
    ap₂ at (omega (arith, px)) (omega (arith, py)) in
    let inner : at ((4 * S.x + P.x) % 4) ((4 * S.y + P.y) % 4) ≡ P =
    ap₂ at (omega (arith, px)) (omega (arith, py)) in
    let a = ap (number_of scan k) outer ∙ s.comes_back in
    let c = ap (number_of scan 2) inner ∙ p.comes_back in
    record {
      x_inside = omega (arith, side, px, s.x_inside);
      y_inside = omega (arith, side, py, s.y_inside);
      comes_back = omega (arith, a, c);
    }

pub record Comes (scan : Scan) (log2 x y : ℕ) : Type 0 where
  pub below : block_number scan log2 (at x y) < 2 ^ log2 * 2 ^ log2
  pub same : block_position scan log2 (block_number scan log2 (at x y)) ≡ at x y

pub comes : (scan : Scan) (log2 x y : ℕ) → 2 ≤ log2 → log2 ≤ 5 → x < 2 ^ log2 → y < 2 ^ log2 →
    Comes scan log2 x y
unfolding block_position block_number
comes scan log2 x y least most xs ys =
    let k : ℕ = log2 - 2 in
    let all = sixteen_times log2 least most in
    let side = four_times log2 least in
    let s = placed scan k (x / 4) (y / 4) (omega arith) (omega (arith, side, xs))
    (omega (arith, side, ys)) in
    let p = placed scan 2 (x % 4) (y % 4) (omega arith) (omega arith) (omega arith) in
    let a : ℕ = number_of scan k (at (x / 4) (y / 4)) in
    let c : ℕ = number_of scan 2 (at (x % 4) (y % 4)) in
    let few : c < 16 = p.below in
    let high : (16 * a + c) / 16 ≡ a = omega (arith, few) in
    let low : (16 * a + c) % 16 ≡ c = omega (arith, few) in
    let S : position_at scan k ((16 * a + c) / 16) ≡ at (x / 4) (y / 4) =
    ap (position_at scan k) high ∙ s.same in
    let P : position_at scan 2 ((16 * a + c) % 16) ≡ at (x % 4) (y % 4) =
    ap (position_at scan 2) low ∙ p.same in
    let xe : 4 * (x / 4) + x % 4 ≡ x = omega arith in
    let ye : 4 * (y / 4) + y % 4 ≡ y = omega arith in
    record {
      below = omega (arith, all, few, s.below);
      same =
          ap₂ (λ (q r : Position). at (4 * q.x + r.x) (4 * q.y + r.y)) S P ∙ ap₂ at xe ye;
    }
