-- Blocks that are 0 outside their first eight columns and rows.
use Rattle.std.proofs.Common.{Bool, List, [], ap, ap₂, arith, drop, length, map, nat_le, negsuc, pos, refl, replicate, subst, suc, sym, take, true, zero, ℕ, ℤ, ◌*ℤ◌, ◌*◌, ◌+ℤ◌, ◌+◌, ◌-◌, ◌<◌, ◌^◌, ◌∙◌, ◌∷◌, ◌≡◌, ◌≤◌}
use Rattle.std.proofs.lemmas.Int.{clamps, ints}
use Rattle.hv_lanes.proofs.ZeroLemmas.{part_of_0}
use Rattle.hv_lanes.specs.Ranges.{is_other_than_0}
use Rattle.std.specs.List.{list_any}
use Rattle.std.proofs.Common.{false}
use Rattle.std.proofs.lemmas.List.{get_or_past}
use mir.Syntax.{w16, w32}
use mir.Val.{SFits, of_z}
use Rattle.hv_lemmas.specs.Clipping.{clip16}
use Rattle.hv_lanes.specs.Ranges.{Have16Bits}
use Rattle.hv_lanes.proofs.PartLemmas.{numbers_of_bits, zero_fits}
use Rattle.std.proofs.lemmas.Simd.{put_chunk_whole}
use lib.Lanes.{put_chunk}
use lib.Seq.{take_all}
use Rattle.hv_lanes.specs.Lanes.{AreZero, HasPairs, IsShort, Numbers, at, place}
use Rattle.hv_lanes.proofs.LaneStepLemmas.{clamped, clamps_are, narrowed}
use Rattle.hv_lemmas.proofs.ComputedLemmas.{all_below, holds_below}
use Rattle.std.proofs.lemmas.Bool.{cases_lt, leb-true}
use Rattle.std.proofs.Math.Nat.{mul-le-mul_right}
use Rattle.hv_transform.specs.Columns.{AreFew}
use Rattle.hv_sample_model.specs.Blocks.{at_place, sum_of}
use Rattle.hv_transform.proofs.ColumnLaneLemmas.{zero_times}
use Rattle.hv_tables.specs.TransformMatrix.{transMatrix}
use Rattle.hv_sample_model.specs.Quantisation.{rounded}
use Rattle.hv_sample_model.specs.InverseTransform.{column_sample}
use mathlib.Core.Logic.{⊎_elim}
use Rattle.std.proofs.lemmas.List.{get_or-append_right, get_or-drop}
use borrow.Rule.Slice.PartMut.{put_mid}
use lib.ListN.{get_or}
use Rattle.hv_lanes.specs.Passes.{HasFirst}

-- numbers of 16 bits are their own nearest
nearest : (z : ℤ) → SFits w16 z → clip16 z ≡ z
nearest (pos n) f = omega (arith, ints, clamps, f)
nearest (negsuc n) f = omega (arith, ints, clamps, f)

map_nearest : (xs : List ℤ) → Have16Bits xs → map clip16 xs ≡ xs
map_nearest [] h = refl
map_nearest (x ∷ xs) h = ap₂ (λ a b. a ∷ b) (nearest x (h 0 x (omega arith))) (map_nearest xs (λ k d below. h (suc k) d (omega (arith, below))))

pub narrowed_is : (out numbers : List ℤ) → length numbers ≡ 8 → length out ≡ 8 → Have16Bits numbers → put_chunk 0 out (narrowed (clamped (map (of_z w32) (take 8 numbers)) (replicate 8 4294934528) (replicate 8 32767))) ≡ numbers
narrowed_is out numbers l m h =
    let all : take 8 numbers ≡ numbers = take_all 8 numbers (omega (arith, l)) in
    let is : narrowed (clamped (map (of_z w32) (take 8 numbers)) (replicate 8 4294934528) (replicate 8 32767)) ≡ numbers =
    ap (λ v. narrowed (clamped (map (of_z w32) v) (replicate 8 4294934528) (replicate 8 32767))) all ∙ clamps_are 8 numbers l (wide numbers h) ∙ map_nearest numbers h in
    ap (put_chunk 0 out) is ∙ put_chunk_whole out numbers (m ∙ sym l)
  where
    wider : (z : ℤ) → SFits w16 z → SFits w32 z
    wider z f = record { sfits = omega (arith, f) }

    wide : (xs : List ℤ) → Have16Bits xs → (k : ℕ) → SFits w32 (at xs k)
    wide xs h k = wider (at xs k) (numbers_of_bits xs h k)

pub zeros : (n k : ℕ) → at (replicate n (pos 0)) k ≡ pos 0
zeros zero k = refl
zeros (suc n) zero = refl
zeros (suc n) (suc k) = zeros n k

pub zero_rows : (m n : ℕ) → AreZero (replicate m (replicate n (pos 0)))
zero_rows zero n p k = refl
zero_rows (suc m) n zero k = zeros n k
zero_rows (suc m) n (suc p) k = zero_rows m n p k

-- the places behind the first four numbers
abbrev are_far : ℕ → ℕ → ℕ → Bool
are_far d p count = all_below (count - 4) (λ r. nat_le 8 (place d (2 * p + (4 + r))))

far : (d p count : ℕ) → are_far d p count ≡ true → (r : ℕ) → 4 ≤ r → r < count → 8 ≤ place d (2 * p + r)
far d p count h r least below =
    let e : 4 + (r - 4) ≡ r = omega (arith, least) in
    subst (λ r. 8 ≤ place d (2 * p + r)) e (leb-true _ _ (holds_below (count - 4) (λ r. nat_le 8 (place d (2 * p + (4 + r)))) h (r - 4) (omega (arith, least, below))))

few_of_short : (d n columns p count : ℕ) (block : List ℤ) (rows : List (List ℤ)) → are_far d p count ≡ true → 2 * p + count ≤ n → HasPairs d n columns block rows → IsShort n block → (i : ℕ) → i < columns → AreFew count rows i p
few_of_short d n columns p count block rows h fit pairs short i across r least below =
    let rows_beyond : 8 * n ≤ place d (2 * p + r) * n = mul-le-mul_right n (far d p count h r least below) in
    pairs i (2 * p + r) across (omega (arith, fit, below)) ∙ short (place d (2 * p + r) * n + i) (omega (arith, rows_beyond))

pub few_16 : (columns : ℕ) (block : List ℤ) (rows : List (List ℤ)) → HasPairs 2 16 columns block rows → IsShort 16 block → (i : ℕ) → i < columns → AreFew 8 rows i 0
few_16 columns block rows = few_of_short 2 16 columns 0 8 block rows refl (omega arith)

pub few_32 : (columns : ℕ) (block : List ℤ) (rows : List (List ℤ)) → HasPairs 3 32 columns block rows → IsShort 32 block → (i : ℕ) → i < columns → AreFew 16 rows i 0
few_32 columns block rows = few_of_short 3 32 columns 0 16 block rows refl (omega arith)

pub few_others_32 : (columns : ℕ) (block : List ℤ) (rows : List (List ℤ)) → HasPairs 3 32 columns block rows → IsShort 32 block → (i : ℕ) → i < columns → AreFew 8 rows i 8
few_others_32 columns block rows = few_of_short 3 32 columns 8 8 block rows refl (omega arith)

zero_sum : (n : ℕ) (f : ℕ → ℤ) → ((k : ℕ) → k < n → f k ≡ pos 0) → sum_of n f ≡ pos 0
unfolding sum_of
zero_sum zero f h = refl
zero_sum (suc n) f h = ap₂ (λ a b. a +ℤ b) (zero_sum n f (λ k below. h k (omega (arith, below)))) (h n (omega arith))

zero_column : (log2 x y : ℕ) (coefficient : ℕ → ℕ → ℤ) → ((k : ℕ) → k < 2 ^ log2 → coefficient x k ≡ pos 0) → column_sample log2 coefficient x y ≡ pos 0
zero_column log2 x y coefficient h =
    ap (λ s. clip16 (rounded s 7))
    (zero_sum (2 ^ log2) (λ k. transMatrix log2 k y *ℤ coefficient x k) (λ k below. ap (λ z. transMatrix log2 k y *ℤ z) (h k below) ∙ zero_times (transMatrix log2 k y)))

-- the columns behind the first eight
pub column_of_0 : (log2 x y : ℕ) (block : List ℤ) → IsShort (2 ^ log2) block → ((k : ℕ) → k < 8 → at block (k * 2 ^ log2 + x) ≡ pos 0) → column_sample log2 (at_place log2 block) x y ≡ pos 0
column_of_0 log2 x y block short narrow =
    zero_column log2 x y (at_place log2 block)
    (λ k below.
    ⊎_elim
    (λ (first : k < 8). narrow k first)
    (λ (behind : 8 ≤ k).
    let rows_beyond : 8 * 2 ^ log2 ≤ k * 2 ^ log2 = mul-le-mul_right (2 ^ log2) behind in
    short (k * 2 ^ log2 + x) (omega (arith, rows_beyond)))
    (cases_lt k 8))

-- what stands behind what was written
pub behind : (a j : ℕ) (xs ys : List ℤ) → a ≤ length xs → length ys ≡ a → a ≤ j → get_or (put_mid 0 a xs ys) j (pos 0) ≡ at xs j
behind a j xs ys inside long past =
    let here : a + (j - a) ≡ j = omega (arith, past) in
    get_or-append_right ys (drop a xs) a j (pos 0) long past ∙ get_or-drop a xs (j - a) (pos 0) ∙ ap (at xs) here

pub numbers_of_short : (n : ℕ) (f : ℕ → ℤ) (xs : List ℤ) → HasFirst n f xs → ((k : ℕ) → n ≤ k → at xs k ≡ pos 0) → ((k : ℕ) → SFits w16 (f k)) → Numbers xs
numbers_of_short n f xs each rest fits k =
    ⊎_elim
    (λ (below : k < n). subst (SFits w16) (sym (each k below)) (fits k))
    (λ (past : n ≤ k). subst (SFits w16) (sym (rest k past)) zero_fits)
    (cases_lt k n)

-- where the rows behind the first eight have nothing but 0
pub short_of : (n : ℕ) (xs : List ℤ) → 8 * n ≤ n * n → length xs ≡ n * n → list_any is_other_than_0 (take (n * n - 8 * n) (drop (8 * n) xs)) ≡ false → IsShort n xs
short_of n xs inside whole h k behind =
    ⊎_elim
    (λ (below : k < n * n). part_of_0 (8 * n) (n * n - 8 * n) xs h k behind (omega (arith, below, inside)))
    (λ (past : n * n ≤ k). get_or_past xs k (pos 0) (omega (arith, past, whole)))
    (cases_lt k (n * n))
