-- Scans of sides 1 to 8 (6.5.3 to 6.5.5), computed, and what tables of them say of a position.
use Rattle.std.proofs.Common.{◌≡◌, ℕ, zero, suc, ◌+◌, ◌-◌, ◌*◌, ◌/◌, ◌%◌, ◌^◌, ◌<◌, ◌≤◌, Bool, true, nat_lt, ◌&&◌, List, length, map, get_or, refl, ap, sym, ◌∙◌, subst, arith, pow-add}
use Rattle.std.specs.List.{list_all}
use Rattle.std.proofs.Math.Pow.{pow_mono}
use Rattle.std.proofs.Math.Nat.{mul-le-mul_right}
use Rattle.std.proofs.Math.ListN.{get_or-map}
use Rattle.std.proofs.lemmas.Bool.{and_parts, ltb-true}
use Rattle.std.proofs.lemmas.List.{length-map}
use Rattle.hv_lemmas.specs.Lists.{tabulate}
use Rattle.hv_lemmas.proofs.ComputedLemmas.{all_below, holds_at, holds_below}
use Rattle.hv_plan.specs.declared.prediction.Scan.{Scan}
use Rattle.hv_plan.specs.declared.prediction.Scan.TheVariants.{Diagonal, Horizontal, Vertical}
use Rattle.hv_residual_model.specs.ScanOrder.{Position, at, scan_order, position_at}
use Rattle.hv_residual.specs.Scans.{place_of, is_place}

pub order_at : (scan : Scan) (log2 k : ℕ) (positions : List Position) → log2 ≡ k →
    scan_order scan k ≡ positions → scan_order scan log2 ≡ positions
order_at scan log2 k positions e order = rw e order

has_length : Scan → ℕ → Type 0
has_length scan log2 = length (scan_order scan log2) ≡ 2 ^ log2 * 2 ^ log2

length_0 : (scan : Scan) → has_length scan 0
unfolding scan_order tabulate has_length
length_0 Diagonal = refl
length_0 Horizontal = refl
length_0 Vertical = refl

length_1 : (scan : Scan) → has_length scan 1
unfolding scan_order tabulate has_length
length_1 Diagonal = refl
length_1 Horizontal = refl
length_1 Vertical = refl

length_2 : (scan : Scan) → has_length scan 2
unfolding scan_order tabulate has_length
length_2 Diagonal = refl
length_2 Horizontal = refl
length_2 Vertical = refl

length_3 : (scan : Scan) → has_length scan 3
unfolding scan_order tabulate has_length
length_3 Diagonal = refl
length_3 Horizontal = refl
length_3 Vertical = refl

pub length-scan_order : (scan : Scan) (log2 : ℕ) → log2 ≤ 3 →
    length (scan_order scan log2) ≡ 2 ^ log2 * 2 ^ log2
unfolding has_length
length-scan_order scan zero h = length_0 scan
length-scan_order scan (suc zero) h = length_1 scan
length-scan_order scan (suc (suc zero)) h = length_2 scan
length-scan_order scan (suc (suc (suc zero))) h = length_3 scan
length-scan_order scan (suc (suc (suc (suc n)))) h = absurd (omega arith)

pub length_of_table : (scan : Scan) (log2 : ℕ) (table : List ℕ) → log2 ≤ 3 →
    scan_order scan log2 ≡ map place_of table → length table ≡ 2 ^ log2 * 2 ^ log2
length_of_table scan log2 table h order =
    sym (length-map table place_of) ∙ ap length (sym order) ∙ length-scan_order scan log2 h

pub place_inside : (log2 : ℕ) (table : List ℕ) (i : ℕ) → list_all (is_place log2) table ≡ true →
    i < length table → (get_or table i 0 % 8 < 2 ^ log2) × (get_or table i 0 / 8 < 2 ^ log2)
place_inside log2 table i all h =
    let one : is_place log2 (get_or table i 0) ≡ true = holds_at (is_place log2) table i 0 all h in
    let parts = and_parts (nat_lt (get_or table i 0 % 8) (2 ^ log2))
    (nat_lt (get_or table i 0 / 8) (2 ^ log2)) one in
    (ltb-true _ _ parts.0, ltb-true _ _ parts.1)

pub place_is : (scan : Scan) (log2 : ℕ) (table : List ℕ) (i : ℕ) →
    scan_order scan log2 ≡ map place_of table → place_of (get_or table i 0) ≡ position_at scan log2 i
place_is scan log2 table i order =
    sym (ap (λ (ps : List Position). get_or ps i (at 0 0)) order ∙ get_or-map place_of table i 0)

-- no side is above 8
pub below_8 : (log2 x : ℕ) → log2 ≤ 3 → x < 2 ^ log2 → x < 8
below_8 log2 x h j = let p = pow_mono {i = log2} {j = 3} h in omega (arith, p, j)

pub four_times : (log2 : ℕ) → 2 ≤ log2 → 4 * 2 ^ (log2 - 2) ≡ 2 ^ log2
four_times log2 h =
    let e : log2 ≡ 2 + (log2 - 2) = omega arith in
    let p = pow-add 2 2 (log2 - 2) in
    sym (ap (λ (n : ℕ). 2 ^ n) e ∙ p)

-- a level inside a block
pub inside_block : (log2 cx cy x y : ℕ) → 2 ≤ log2 → cx < 2 ^ (log2 - 2) → cy < 2 ^ (log2 - 2) →
    x < 4 → y < 4 → (4 * cy + y) * 2 ^ log2 + (4 * cx + x) < 2 ^ log2 * 2 ^ log2
inside_block log2 cx cy x y h hx hy kx ky =
    let f = four_times log2 h in
    let row : suc (4 * cy + y) ≤ 2 ^ log2 = omega (arith, f) in
    let column : 4 * cx + x < 2 ^ log2 = omega (arith, f) in
    let m : suc (4 * cy + y) * 2 ^ log2 ≤ 2 ^ log2 * 2 ^ log2 = mul-le-mul_right (2 ^ log2) row in
    omega (arith, m, column)

-- the levels of all sub-blocks
pub sixteen_times : (log2 : ℕ) → 2 ≤ log2 →
    16 * (2 ^ (log2 - 2) * 2 ^ (log2 - 2)) ≡ 2 ^ log2 * 2 ^ log2
sixteen_times log2 h =
    let f = four_times log2 h in
    let w : ℕ = 2 ^ (log2 - 2) in
    subst (λ (v : ℕ). 16 * (w * w) ≡ v * v) f (omega arith)

-- ---- positions of a sub-block are inside of it
in_square : Scan → ℕ → Bool
in_square scan i = nat_lt (position_at scan 2 i).x 4 && nat_lt (position_at scan 2 i).y 4

all_in_square : (scan : Scan) → all_below 16 (in_square scan) ≡ true
unfolding in_square scan_order tabulate
all_in_square Diagonal = refl
all_in_square Horizontal = refl
all_in_square Vertical = refl

pub inside_sub_block : (scan : Scan) (i : ℕ) → i < 16 →
    ((position_at scan 2 i).x < 4) × ((position_at scan 2 i).y < 4)
unfolding in_square
inside_sub_block scan i h =
    let parts = and_parts (nat_lt (position_at scan 2 i).x 4) (nat_lt (position_at scan 2 i).y 4)
    (holds_below 16 (in_square scan) (all_in_square scan) i h) in
    (ltb-true _ _ parts.0, ltb-true _ _ parts.1)
