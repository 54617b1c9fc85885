-- The means of sums over columns, from their lanes.
use Rattle.hv_lanes.proofs.WeightLemmas.{light, size_of_products}
use Rattle.std.proofs.Common.{All, List, ap, ap₂, arith, length, length-append, map, pos, subst, sym, ℕ, ℤ, ◌*◌, ◌++◌, ◌+◌, ◌-◌, ◌<◌, ◌^◌, ◌∙◌, ◌≡◌, ◌≤◌}
use Rattle.std.specs.Int.RustNames.{unsigned_abs}
use Rattle.std.proofs.Math.Nat.{mul-le-mul_right}
use Rattle.hv_tables.specs.TransformMatrix.{transMatrix}
use Rattle.hv_transform.specs.Columns.{ColumnSums, HaveBits, column_mean, column_sum, in_order, numbers_from, pass_mean}
use Rattle.hv_lanes.proofs.NumberLemmas.{small_number}
use mir.Syntax.{w16, w32}
use mir.Val.{SFits}
use Rattle.hv_transform.proofs.OrderLemmas.{in_order_all}
use Rattle.std.proofs.lemmas.Int.{fits_signed_from_abs, int_wrap_fits}
use Rattle.hv_lanes.specs.Lanes.{at}
use Rattle.std.proofs.lemmas.List.Elements.{All-from_get_or}
use Rattle.hv_lanes.proofs.FourLaneLemmas.{kept_lanes}
use Rattle.hv_lanes.proofs.LaneStepLemmas.{passed}
use Rattle.std.proofs.lemmas.Bool.{cases_lt}
use Rattle.std.proofs.lemmas.List.{get_or-append_right, get_or-map, get_or_append_left, length-map}
use mathlib.Core.Logic.{⊎_elim}
use Rattle.hv_lemmas.specs.Clipping.{clip16}
use Rattle.hv_sample_model.specs.Quantisation.{rounded}
use borrow.Rule.Slice.PartMut.{put_mid}
use Rattle.hv_lanes.specs.Passes.{HasFirst}
use Rattle.hv_lanes.proofs.PartLemmas.{HasFirst-put}
use Rattle.std.proofs.lemmas.Nat.{div-mul-add, mod-mul-add}

-- a sum over a column of numbers of 16 bits
pub column_small : (log2 n : ℕ) (c : ℕ → ℤ) → 2 ≤ log2 → log2 ≤ 5 → n < 2 ^ log2 → ((k : ℕ) → k < 2 ^ log2 → unsigned_abs (c k) ≤ 32768) → unsigned_abs (column_sum log2 c n) ≤ 67108864
column_small log2 n c least greatest inside h =
    let heavy = size_of_products (2 ^ log2) 32768 (λ k. transMatrix log2 k n) c h in
    let weight = mul-le-mul_right 32768 (light log2 n least greatest inside).1 in
    omega (arith, heavy, weight)

pub order_small : (d : ℕ) (rows : List (List ℤ)) (i p : ℕ) → HaveBits (2 ^ (d + 2)) rows i p → (k : ℕ) → k < 2 ^ (d + 2) → unsigned_abs (in_order d (numbers_from rows i p) k) ≤ 32768
order_small d rows i p h k below = small_number _ (in_order_all (SFits w16) d (numbers_from rows i p) h k below)

-- lanes whose sums are small are the sums themselves
lane_is : (d n : ℕ) (c : ℕ → ℤ) (v : List ℤ) → d ≤ 3 → n + 4 ≤ 2 ^ (d + 2) → ((k : ℕ) → k < 2 ^ (d + 2) → unsigned_abs (in_order d c k) ≤ 32768) → ColumnSums d c n v
    → (j : ℕ) → j < 4 → (at v j ≡ column_sum (d + 2) (in_order d c) (n + j)) × (unsigned_abs (at v j) ≤ 1073741824)
lane_is d n c v few inside small h j below =
    let s : ℤ = column_sum (d + 2) (in_order d c) (n + j) in
    let size : unsigned_abs s ≤ 67108864 = column_small (d + 2) (n + j) (in_order d c) (omega arith) (omega (arith, few)) (omega (arith, inside, below)) small in
    let e : at v j ≡ s = h.each j below ∙ int_wrap_fits w32 s (fits_signed_from_abs w32 s (omega (arith, size))) in
    (e, rw e (omega (arith, size)))

pub lanes_small : (d n : ℕ) (c : ℕ → ℤ) (v : List ℤ) → d ≤ 3 → n + 4 ≤ 2 ^ (d + 2) → ((k : ℕ) → k < 2 ^ (d + 2) → unsigned_abs (in_order d c k) ≤ 32768) → ColumnSums d c n v → All (λ z. unsigned_abs z ≤ 1073741824) (passed w32 v)
lanes_small d n c v few inside small h =
    subst (All (λ z. unsigned_abs z ≤ 1073741824)) (sym (kept_lanes _ v h))
    (All-from_get_or (λ z. unsigned_abs z ≤ 1073741824) v (pos 0) (λ j below. (lane_is d n c v few inside small h j (omega (arith, below, h.count))).1))

pub lanes_count : (d n : ℕ) (c : ℕ → ℤ) (v : List ℤ) → ColumnSums d c n v → length (passed w32 v) ≡ 4
lanes_count d n c v h = ap length (kept_lanes _ v h) ∙ h.count

-- eight means
pub means_are : (d n s : ℕ) (c : ℕ → ℤ) (a b out : List ℤ) → d ≤ 3 → n + 8 ≤ 2 ^ (d + 2) → ((k : ℕ) → k < 2 ^ (d + 2) → unsigned_abs (in_order d c k) ≤ 32768) → ColumnSums d c n a → ColumnSums d c (n + 4) b
    → out ≡ map (λ z. clip16 (rounded z s)) (passed w32 a ++ passed w32 b) → (length out ≡ 8) × ((m : ℕ) → m < 8 → at out m ≡ column_mean d c s (n + m))
means_are d n s c a b out few inside small h k e =
    let mean : ℤ → ℤ = λ z. clip16 (rounded z s) in
    let is : out ≡ map mean (a ++ b) = e ∙ ap₂ (λ x y. map mean (x ++ y)) (kept_lanes _ a h) (kept_lanes _ b k) in
    let both : length (a ++ b) ≡ 8 = length-append a b ∙ ap₂ (λ x y. x + y) h.count k.count in (
      ap length is ∙ length-map (a ++ b) mean ∙ both,
      λ m below.
          ap (λ v. at v m) is ∙ get_or-map mean (a ++ b) m (pos 0) (pos 0) (omega (arith, below, both)) ∙
          ap mean
          (⊎_elim
          (λ (less : m < 4).
          get_or_append_left a b (pos 0) m (omega (arith, less, h.count)) ∙ (lane_is d n c a few (omega (arith, inside)) small h m less).0)
          (λ (more : 4 ≤ m).
          let place : n + 4 + (m - 4) ≡ n + m = omega (arith, more) in
          get_or-append_right a b 4 m (pos 0) h.count more ∙ (lane_is d (n + 4) c b few (omega (arith, inside)) small k (m - 4) (omega (arith, below, more))).0 ∙
          ap (column_sum (d + 2) (in_order d c)) place)
          (cases_lt m 4)),
    )

-- eight more means of a row
pub means_more : (d n s k : ℕ) (c : ℕ → ℤ) (a b out new : List ℤ) → d ≤ 3 → n + 8 ≤ 2 ^ (d + 2) → ((k : ℕ) → k < 2 ^ (d + 2) → unsigned_abs (in_order d c k) ≤ 32768) → ColumnSums d c n a → ColumnSums d c (n + 4) b
    → new ≡ map (λ z. clip16 (rounded z s)) (passed w32 a ++ passed w32 b) → n ≤ length out → HasFirst n (column_mean d c s) out → HasFirst (n + 8) (column_mean d c s) (put_mid n k out new)
means_more d n s k c a b out new few inside small h g e room old =
    let means = means_are d n s c a b new few inside small h g e in
    HasFirst-put n 8 k (column_mean d c s) out new room means.0 old means.1

-- one more row of a pass
pub row_more : (d i s k : ℕ) (rows : List (List ℤ)) (out new : List ℤ) → i * 2 ^ (d + 2) ≤ length out → length new ≡ 2 ^ (d + 2) → HasFirst (2 ^ (d + 2)) (column_mean d (numbers_from rows i 0) s) new
    → HasFirst (i * 2 ^ (d + 2)) (pass_mean d rows s) out → HasFirst (i * 2 ^ (d + 2) + 2 ^ (d + 2)) (pass_mean d rows s) (put_mid (i * 2 ^ (d + 2)) k out new)
row_more d i s k rows out new room long row old =
    let n : ℕ = 2 ^ (d + 2) in
    HasFirst-put (i * n) n k (pass_mean d rows s) out new room long old
    (λ m below.
    row m below ∙
    sym (ap₂ (λ y x. column_mean d (numbers_from rows y 0) s x) (div-mul-add i n m below) (mod-mul-add i n m below)))
