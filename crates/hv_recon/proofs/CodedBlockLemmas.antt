-- A transform block that is coded: the rows that are read of a plane, what a prediction leaves of
-- samples, and whether a level isn't 0. For the levels that an intra block is given.
use Rattle.std.proofs.Common.{◌≡◌, ℕ, zero, suc, ◌+◌, ◌-◌, ◌*◌, ◌^◌, ◌<◌, ◌≤◌, List, [], ◌∷◌, ◌++◌, length, set, take, drop, get_or, refl, ap, ap₂, subst, ◌∙◌, arith, inl, inr, mul-le-mul_right, ℤ, pos, negsuc, ◌-ℤ◌}
use Rattle.std.specs.Prelude.{nat_lt, ◌||◌, ◌⊎◌}
use Rattle.std.specs.List.{list_any}
use Rattle.std.specs.Int.RustNames.{unsigned_abs}
use Rattle.std.proofs.lemmas.Bool.{cases_lt}
use Rattle.std.proofs.lemmas.Bool.Decides.{nat_tests}
use Rattle.std.proofs.lemmas.Grind.{common_steps}
use Rattle.std.proofs.lemmas.Int.{ints}
use Rattle.std.proofs.lemmas.List.Elements.{All-nil, All-cons}
use Rattle.std.proofs.Math.Nat.{add-mul, mul_comm}
use Rattle.hv_types.specs.Samples.{Plane, sample_at}
use Rattle.hv_forward.specs.Ranges.{AreDifferences}
use Rattle.hv_intra.specs.Blocks.{HasRows}
use Rattle.hv_intra.proofs.RowLemmas.{block_is}
use Rattle.hv_recon.specs.Coding.{input_block, differences}
use Rattle.hv_recon.specs.Levels.{is_other_than_0, is_coded}
use Rattle.hv_recon.specs.Rows.{with_row}
use Rattle.hv_recon.proofs.PutRowLemmas.{before_row, in_row}

-- ---- rows of a plane

-- where a row of a block ends among the samples of a plane
pub row_ends_in_plane : (x y r n w h count : ℕ) → x + n ≤ w → y + r < h → count ≡ w * h →
    (y + r) * w + x + n ≤ count
row_ends_in_plane x y r n w h count across down whole =
    let rows : (y + r + 1) * w ≤ h * w = mul-le-mul_right w (omega (arith, down)) in
    omega (arith, rows, add-mul (y + r) 1 w, across, whole, mul_comm w h)

-- so many samples from a place on
abbrev pub row_of_plane : List ℕ → ℕ → ℕ → List ℕ
row_of_plane samples from n = take (from + n - from) (drop from samples)

pub length-row_of_plane : (samples : List ℕ) (from n : ℕ) → from + n ≤ length samples →
    length (row_of_plane samples from n) ≡ n
length-row_of_plane samples from n fits = grind (arith, common_steps, fits)

pub sample_in_row : (samples : List ℕ) (from n i : ℕ) → i < n →
    get_or (row_of_plane samples from n) i 0 ≡ get_or samples (from + i) 0
sample_in_row samples from n i small = grind (arith, common_steps, small)

-- so many rows of a block are read
abbrev pub AreRead : Plane → ℕ → ℕ → ℕ → ℕ → List ℕ → Type 0
AreRead plane x y n rows block = HasRows n rows (λ i j. sample_at plane (x + i) (y + j)) block

pub none_read : (plane : Plane) (x y n : ℕ) (block : List ℕ) → AreRead plane x y n 0 block
none_read plane x y n block = λ i j across down. absurd (omega (arith, down))

pub row_read : (plane : Plane) (x y n r from : ℕ) (samples block row : List ℕ) →
    samples ≡ plane.samples → from ≡ (y + r) * plane.width + x → length row ≡ n →
    ((i : ℕ) → i < n → get_or row i 0 ≡ get_or samples (from + i) 0) →
    r * n + n ≤ length block → AreRead plane x y n r block →
    AreRead plane x y n (r + 1) (with_row block (r * n) row)
row_read plane x y n r from samples block row same at long each room rows =
    λ i j across down. go i j across down (cases_lt j r)
  where
    fits : r * n + length row ≤ length block
    fits = omega (arith, long, room)

    go : (i j : ℕ) → i < n → j < r + 1 → (j < r) ⊎ (r ≤ j) →
        get_or (with_row block (r * n) row) (j * n + i) 0 ≡ sample_at plane (x + i) (y + j)
    go i j across down (inl h) =
        let above : suc j * n ≤ r * n = mul-le-mul_right n h in
        before_row block row (r * n) (j * n + i) fits (omega (arith, above, across)) ∙
        rows i j across h
    go i j across down (inr h) =
        let here : j ≡ r = omega (arith, down, h) in
        let place : j * n + i ≡ r * n + i = ap (λ k. k * n + i) here in
        let from_is : from + i ≡ (y + j) * plane.width + (x + i) =
        rw here (omega (arith, at)) in
        ap (λ k. get_or (with_row block (r * n) row) k 0) place ∙
        in_row block row (r * n) i fits (omega (arith, long, across)) ∙
        each i across ∙
        (λ k. get_or (same k) (from_is k) 0)

pub all_read : (plane : Plane) (x y log2 rows : ℕ) (block : List ℕ) → rows ≡ 2 ^ log2 →
    length block ≡ 2 ^ log2 * 2 ^ log2 → AreRead plane x y (2 ^ log2) rows block →
    block ≡ input_block plane x y log2
all_read plane x y log2 rows block all whole read =
    block_is log2 (λ i j. sample_at plane (x + i) (y + j)) block whole
    (subst (λ k. AreRead plane x y (2 ^ log2) k block) all read)

-- ---- samples minus their prediction

-- the numbers where so many differences were taken
abbrev pub subtracted : List ℕ → List ℕ → List ℤ → ℕ → List ℤ
subtracted samples predicted old i = differences (take i samples) (take i predicted) ++ drop i old

pub subtract_next : (samples predicted : List ℕ) (old : List ℤ) (i : ℕ) → i < length samples →
    length predicted ≡ length samples → length old ≡ length samples →
    set (subtracted samples predicted old i) i
    (pos (get_or samples i 0) -ℤ pos (get_or predicted i 0)) ≡
    subtracted samples predicted old (suc i)
subtract_next [] predicted old i below even room = absurd (omega (arith, below))
subtract_next (s ∷ samples) [] old i below even room = absurd (omega (arith, even))
subtract_next (s ∷ samples) (p ∷ predicted) [] i below even room = absurd (omega (arith, room))
subtract_next (s ∷ samples) (p ∷ predicted) (o ∷ old) zero below even room = refl
subtract_next (s ∷ samples) (p ∷ predicted) (o ∷ old) (suc i) below even room =
    ap (λ l. (pos s -ℤ pos p) ∷ l)
    (subtract_next samples predicted old i (omega (arith, below)) (omega (arith, even))
    (omega (arith, room)))

pub all_subtracted : (samples predicted : List ℕ) (old : List ℤ) (i : ℕ) → i ≡ length samples →
    length predicted ≡ length samples → length old ≡ length samples →
    subtracted samples predicted old i ≡ differences samples predicted
all_subtracted [] predicted [] zero all even room = refl
all_subtracted [] predicted [] (suc i) all even room = absurd (omega (arith, all))
all_subtracted [] predicted (o ∷ old) i all even room = absurd (omega (arith, room))
all_subtracted (s ∷ samples) [] old i all even room = absurd (omega (arith, even))
all_subtracted (s ∷ samples) (p ∷ predicted) [] i all even room = absurd (omega (arith, room))
all_subtracted (s ∷ samples) (p ∷ predicted) (o ∷ old) zero all even room =
    absurd (omega (arith, all))
all_subtracted (s ∷ samples) (p ∷ predicted) (o ∷ old) (suc i) all even room =
    ap (λ l. (pos s -ℤ pos p) ∷ l)
    (all_subtracted samples predicted old i (omega (arith, all)) (omega (arith, even))
    (omega (arith, room)))

byte_apart : (a b : ℕ) → a < 256 → b < 256 → unsigned_abs (pos a -ℤ pos b) ≤ 255
byte_apart a b small few = omega (arith, ints, small, few)

pub are_differences : (samples predicted : List ℕ) → ((k : ℕ) → get_or samples k 0 < 256) →
    ((k : ℕ) → get_or predicted k 0 < 256) → AreDifferences (differences samples predicted)
are_differences [] predicted small few = All-nil (λ z. unsigned_abs z ≤ 255)
are_differences (s ∷ samples) [] small few = All-nil (λ z. unsigned_abs z ≤ 255)
are_differences (s ∷ samples) (p ∷ predicted) small few =
    All-cons (λ z. unsigned_abs z ≤ 255) (pos s -ℤ pos p) _ (byte_apart s p (small 0) (few 0))
    (are_differences samples predicted (λ k. small (suc k)) (λ k. few (suc k)))

-- ---- whether a level isn't 0

other_than_0 : (z : ℤ) → nat_lt 0 (unsigned_abs z) ≡ is_other_than_0 z
other_than_0 (pos zero) = refl
other_than_0 (pos (suc n)) = grind (arith, nat_tests)
other_than_0 (negsuc n) = grind (arith, nat_tests)

pub any_other_than_0 : (levels : List ℤ) →
    list_any (λ z. nat_lt 0 (unsigned_abs z)) levels ≡ is_coded levels
any_other_than_0 [] = refl
any_other_than_0 (z ∷ levels) = ap₂ (λ a b. a || b) (other_than_0 z) (any_other_than_0 levels)
