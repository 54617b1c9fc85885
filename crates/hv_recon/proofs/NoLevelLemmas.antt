-- Levels that are all 0 have a residual that is 0, and samples to which it is added are kept
-- (8.6.2, 8.6.7).
use Rattle.std.proofs.Common.{◌≡◌, ℕ, zero, suc, ◌+◌, ◌-◌, ◌*◌, ◌/◌, ◌^◌, ◌<◌, ◌≤◌, false, List, [], ◌∷◌, length, map, refl, sym, ap, ap₂, ◌∙◌, arith, length-append, ℤ, pos, negsuc, ◌+ℤ◌, ◌*ℤ◌}
use Rattle.std.specs.Prelude.{All, flat_map, slice_index_or}
use Rattle.std.specs.Int.{int_shr}
use Rattle.std.proofs.lemmas.Bool.{or_parts}
use Rattle.std.proofs.lemmas.Int.{ints, clamps}
use Rattle.std.proofs.lemmas.List.Elements.{All-nil, All-cons, All-head, All-tail, All-append}
use Rattle.hv_lemmas.specs.Clipping.{clip1, clip16}
use Rattle.hv_lemmas.specs.Lists.{tabulate}
use Rattle.hv_lemmas.proofs.ListLemmas.{length-tabulate}
use Rattle.hv_tables.specs.Quantisers.{levelScale}
use Rattle.hv_tables.specs.TransformMatrix.{transMatrix}
use Rattle.hv_sample_model.specs.Blocks.{at_place, sum_of as total}
use Rattle.hv_sample_model.specs.InverseTransform.{scaled, column_sample, inverse_sample, residual}
use Rattle.hv_transform.proofs.ColumnLaneLemmas.{zero_times}
use Rattle.hv_recon_model.specs.Reconstruction.{sum_of}
use Rattle.hv_recon.specs.Levels.{is_other_than_0, is_coded}

abbrev IsZero : ℤ → Type 0
IsZero number = number ≡ pos 0

-- ---- the residual is 0

nothing_but_0 : (level : ℤ) → is_other_than_0 level ≡ false → IsZero level
nothing_but_0 (pos zero) none = refl
nothing_but_0 (pos (suc n)) none = cc
nothing_but_0 (negsuc n) none = cc

shifted_0 : (half shift factor : ℕ) → IsZero (clip16 (int_shr (pos half) shift)) →
    IsZero (clip16 (int_shr (pos 0 *ℤ pos factor +ℤ pos half) shift))
shifted_0 half shift factor small =
    let alone : 0 * factor + half ≡ half = omega arith in
    ap (λ sum. clip16 (int_shr (pos sum) shift)) alone ∙ small

abbrev factor : ℕ → ℕ
factor qp = 16 * levelScale qp * 2 ^ (qp / 6)

scaled_0 : (qp n : ℕ) → n ≤ 3 → IsZero (scaled (2 + n) qp (pos 0))
scaled_0 qp zero most = shifted_0 16 5 (factor qp) refl
scaled_0 qp (suc zero) most = shifted_0 32 6 (factor qp) refl
scaled_0 qp (suc (suc zero)) most = shifted_0 64 7 (factor qp) refl
scaled_0 qp (suc (suc (suc zero))) most = shifted_0 128 8 (factor qp) refl
scaled_0 qp (suc (suc (suc (suc n)))) most = absurd (omega (arith, most))

scaled_at : (f : ℤ → ℤ) → IsZero (f (pos 0)) → (levels : List ℤ) → is_coded levels ≡ false →
    (i : ℕ) → IsZero (slice_index_or (map f levels) i (pos 0))
scaled_at f kept [] none i = refl
scaled_at f kept (level ∷ levels) none zero =
    ap f (nothing_but_0 level (or_parts (is_other_than_0 level) (is_coded levels) none).0) ∙ kept
scaled_at f kept (level ∷ levels) none (suc i) =
    scaled_at f kept levels (or_parts (is_other_than_0 level) (is_coded levels) none).1 i

total_0 : (n : ℕ) (f : ℕ → ℤ) → ((i : ℕ) → IsZero (f i)) → IsZero (total n f)
unfolding total
total_0 zero f each = refl
total_0 (suc n) f each = ap₂ (λ a b. a +ℤ b) (total_0 n f each) (each n)

times_0 : (weight number : ℤ) → IsZero number → IsZero (weight *ℤ number)
times_0 weight number none = ap (λ z. weight *ℤ z) none ∙ zero_times weight

column_0 : (log2 : ℕ) (coefficient : ℕ → ℕ → ℤ) → ((u v : ℕ) → IsZero (coefficient u v)) →
    (x y : ℕ) → IsZero (column_sample log2 coefficient x y)
column_0 log2 coefficient each x y =
    ap (λ sum. clip16 (int_shr (sum +ℤ pos 64) 7))
    (total_0 (2 ^ log2) (λ v. transMatrix log2 v y *ℤ coefficient x v)
    (λ v. times_0 (transMatrix log2 v y) (coefficient x v) (each x v)))

sample_0 : (log2 : ℕ) (coefficient : ℕ → ℕ → ℤ) → ((u v : ℕ) → IsZero (coefficient u v)) →
    (x y : ℕ) → IsZero (inverse_sample log2 coefficient x y)
sample_0 log2 coefficient each x y =
    ap (λ sum. int_shr (sum +ℤ pos 2048) 12)
    (total_0 (2 ^ log2) (λ u. transMatrix log2 u x *ℤ column_sample log2 coefficient u y)
    (λ u. times_0 (transMatrix log2 u x) (column_sample log2 coefficient u y)
    (column_0 log2 coefficient each u y)))

-- ---- rows of numbers that are 0

row_0 : (n : ℕ) (f : ℕ → ℤ) → ((i : ℕ) → IsZero (f i)) → All IsZero (tabulate n f)
unfolding tabulate
row_0 zero f each = All-nil IsZero
row_0 (suc n) f each =
    All-cons IsZero (f 0) _ (each 0) (row_0 n (λ i. f (suc i)) (λ i. each (suc i)))

abbrev pub rows : ℕ → ℕ → (ℕ → ℕ → ℤ) → List ℤ
rows n w f = flat_map (λ row. row) (tabulate n (λ y. tabulate w (λ x. f x y)))

rows_0 : (n w : ℕ) (f : ℕ → ℕ → ℤ) → ((x y : ℕ) → IsZero (f x y)) → All IsZero (rows n w f)
unfolding tabulate
rows_0 zero w f each = All-nil IsZero
rows_0 (suc n) w f each =
    All-append IsZero (tabulate w (λ x. f x 0)) (rows n w (λ x y. f x (suc y)))
    (row_0 w (λ x. f x 0) (λ x. each x 0))
    (rows_0 n w (λ x y. f x (suc y)) (λ x y. each x (suc y)))

pub length-rows : (n w : ℕ) (f : ℕ → ℕ → ℤ) → length (rows n w f) ≡ n * w
unfolding tabulate
length-rows zero w f = omega arith
length-rows (suc n) w f =
    omega (
      arith,
      length-append (tabulate w (λ x. f x 0)) (rows n w (λ x y. f x (suc y))),
      length-tabulate w (λ x. f x 0),
      length-rows n w (λ x y. f x (suc y)),
    )

-- ---- and nothing is added

byte_kept : (s : ℕ) (number : ℤ) → s < 256 → IsZero number → clip1 (pos s +ℤ number) ≡ s
byte_kept s number byte none = ap (λ z. clip1 (pos s +ℤ z)) none ∙ omega (arith, ints, clamps, byte)

bytes_kept : (samples : List ℕ) (numbers : List ℤ) →
    ((k : ℕ) → slice_index_or samples k 0 < 256) → All IsZero numbers →
    length numbers ≡ length samples → sum_of samples numbers ≡ samples
bytes_kept [] numbers bytes each same = refl
bytes_kept (s ∷ samples) [] bytes each same = absurd (omega (arith, same))
bytes_kept (s ∷ samples) (n ∷ numbers) bytes each same =
    ap₂ (λ a b. a ∷ b)
    (byte_kept s n (bytes 0) (All-head IsZero n numbers each))
    (bytes_kept samples numbers (λ k. bytes (suc k)) (All-tail IsZero n numbers each)
    (omega (arith, same)))

area : (n : ℕ) → n ≤ 3 → 4 ^ (2 + n) ≡ 2 ^ (2 + n) * 2 ^ (2 + n)
area zero most = refl
area (suc zero) most = refl
area (suc (suc zero)) most = refl
area (suc (suc (suc zero))) most = refl
area (suc (suc (suc (suc n)))) most = absurd (omega (arith, most))

block_kept : (n qp : ℕ) (levels : List ℤ) (samples : List ℕ) → n ≤ 3 →
    is_coded levels ≡ false → ((k : ℕ) → slice_index_or samples k 0 < 256) →
    length samples ≡ 4 ^ (2 + n) →
    sum_of samples (residual (2 + n) qp levels) ≡ samples
unfolding residual
block_kept n qp levels samples most none bytes count =
    let log2 : ℕ = 2 + n in
    let sample : ℕ → ℕ → ℤ = inverse_sample log2 (at_place log2 (map (scaled log2 qp) levels)) in
    bytes_kept samples (rows (2 ^ log2) (2 ^ log2) sample) bytes
    (rows_0 (2 ^ log2) (2 ^ log2) sample
    (sample_0 log2 _ (λ u v. scaled_at (scaled log2 qp) (scaled_0 qp n most) levels none
    (v * 2 ^ log2 + u))))
    (length-rows (2 ^ log2) (2 ^ log2) sample ∙ sym (count ∙ area n most))

pub kept_without_levels : (log2 qp : ℕ) (levels : List ℤ) (samples : List ℕ) → 2 ≤ log2 →
    log2 ≤ 5 → is_coded levels ≡ false → ((k : ℕ) → slice_index_or samples k 0 < 256) →
    length samples ≡ 4 ^ log2 → sum_of samples (residual log2 qp levels) ≡ samples
kept_without_levels log2 qp levels samples least most none bytes count =
    let n : ℕ = log2 - 2 in
    let same : log2 ≡ 2 + n = omega (arith, least) in
    ap (λ l. sum_of samples (residual l qp levels)) same ∙
    block_kept n qp levels samples (omega (arith, most)) none bytes
    (count ∙ ap (λ l. 4 ^ l) same)
