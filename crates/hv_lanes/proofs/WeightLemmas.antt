-- How heavy rows and columns of the transform matrix are, computed over all of them.
use Rattle.std.proofs.Common.{Bool, List, ap, ap₂, arith, nat_le, pos, refl, slice_index_or, subst, suc, sym, true, zero, ℕ, ℤ, ◌&&◌, ◌*ℤ◌, ◌*◌, ◌+ℤ◌, ◌+◌, ◌<◌, ◌^◌, ◌≡◌, ◌≤◌}
use Rattle.std.specs.Int.RustNames.{unsigned_abs}
use Rattle.hv_tables.specs.TransformMatrix.{transMatrix}
use Rattle.hv_sample_model.specs.Blocks.{sum_of, total_of}
use Rattle.hv_lemmas.proofs.ComputedLemmas.{all_below, holds_below}
use Rattle.std.proofs.lemmas.Bool.{and_parts, leb-true}
use Rattle.hv_tables.specs.Tables.{HasEntries}
use Rattle.hv_lanes.specs.Passes.{WeighAtMost, table_row}
use Rattle.std.proofs.lemmas.Int.{ints, unsigned_abs-mul}
use Rattle.std.proofs.Math.Nat.{add-mul, mul-le-mul_left}
use Rattle.hv_sample_model.proofs.SumLemmas.{total_of_same}

abbrev pub row_weight : ℕ → ℕ → ℕ
row_weight log2 k = total_of (2 ^ log2) (λ n. unsigned_abs (transMatrix log2 k n))

abbrev pub column_weight : ℕ → ℕ → ℕ
column_weight log2 n = total_of (2 ^ log2) (λ k. unsigned_abs (transMatrix log2 k n))

abbrev are_light : ℕ → Bool
are_light log2 = all_below (2 ^ log2) (λ i. nat_le (row_weight log2 i) (64 * 2 ^ log2) && nat_le (column_weight log2 i) 2048)

light_4 : are_light 2 ≡ true
unfolding total_of
light_4 = refl

light_8 : are_light 3 ≡ true
unfolding total_of
light_8 = refl

light_16 : are_light 4 ≡ true
unfolding total_of
light_16 = refl

light_32 : are_light 5 ≡ true
unfolding total_of
light_32 = refl

all_light : (log2 : ℕ) → 2 ≤ log2 → log2 ≤ 5 → are_light log2 ≡ true
all_light zero least greatest = absurd (omega arith)
all_light (suc zero) least greatest = absurd (omega arith)
all_light (suc (suc zero)) least greatest = light_4
all_light (suc (suc (suc zero))) least greatest = light_8
all_light (suc (suc (suc (suc zero)))) least greatest = light_16
all_light (suc (suc (suc (suc (suc zero))))) least greatest = light_32
all_light (suc (suc (suc (suc (suc (suc m)))))) least greatest = absurd (omega arith)

pub light : (log2 i : ℕ) → 2 ≤ log2 → log2 ≤ 5 → i < 2 ^ log2 → (row_weight log2 i ≤ 64 * 2 ^ log2) × (column_weight log2 i ≤ 2048)
light log2 i least greatest inside =
    let parts = and_parts _ _ (holds_below (2 ^ log2) (λ i. nat_le (row_weight log2 i) (64 * 2 ^ log2) && nat_le (column_weight log2 i) 2048) (all_light log2 least greatest) i inside) in
    (leb-true _ _ parts.0, leb-true _ _ parts.1)

-- tables of the matrix by rows and by columns
light_rows : (log2 : ℕ) (table : List (List ℤ)) → 2 ≤ log2 → log2 ≤ 5 → HasEntries (2 ^ log2) (transMatrix log2) table → WeighAtMost (2 ^ log2) (64 * 2 ^ log2) table
light_rows log2 table least greatest entries i below =
    let same = total_of_same (2 ^ log2) (λ x. unsigned_abs (slice_index_or (table_row table i) x (pos 0))) (λ n. unsigned_abs (transMatrix log2 i n)) (λ x less. ap unsigned_abs (entries.each i x below less)) in
    rw same (light log2 i least greatest below).0

pub rows_are_light : (n log2 : ℕ) (table : List (List ℤ)) → n ≡ 2 ^ log2 → 2 ≤ log2 → log2 ≤ 5 → HasEntries n (transMatrix log2) table → WeighAtMost n (64 * n) table
rows_are_light n log2 table e least greatest entries =
    subst (λ m. WeighAtMost m (64 * m) table) (sym e) (light_rows log2 table least greatest (subst (λ m. HasEntries m (transMatrix log2) table) e entries))

pub size_of_products : (n most : ℕ) (t c : ℕ → ℤ) → ((k : ℕ) → k < n → unsigned_abs (c k) ≤ most) → unsigned_abs (sum_of n (λ k. t k *ℤ c k)) ≤ total_of n (λ k. unsigned_abs (t k)) * most
unfolding sum_of total_of
size_of_products zero most t c h = omega (arith, ints)
size_of_products (suc n) most t c h =
    let before : ℕ = total_of n (λ k. unsigned_abs (t k)) in
    let sum : ℤ = sum_of n (λ k. t k *ℤ c k) in
    let first : unsigned_abs sum ≤ before * most = size_of_products n most t c (λ k below. h k (omega (arith, below))) in
    let second : unsigned_abs (t n) * unsigned_abs (c n) ≤ unsigned_abs (t n) * most = mul-le-mul_left (unsigned_abs (t n)) (h n (omega arith)) in
    let product : unsigned_abs (t n *ℤ c n) ≡ unsigned_abs (t n) * unsigned_abs (c n) = unsigned_abs-mul (t n) (c n) in
    let joined : unsigned_abs (sum +ℤ (t n *ℤ c n)) ≤ unsigned_abs sum + unsigned_abs (t n *ℤ c n) = omega (arith, ints) in
    let spread : (before + unsigned_abs (t n)) * most ≡ before * most + unsigned_abs (t n) * most = add-mul before (unsigned_abs (t n)) most in
    omega (arith, first, second, product, joined, spread)
