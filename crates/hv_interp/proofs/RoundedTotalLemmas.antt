-- Sums of both passes, rounded and clipped to samples.
use Rattle.std.proofs.Common.{◌≡◌, ℕ, zero, suc, ◌+◌, ◌-◌, ◌/◌, ◌<◌, ◌≤◌, All, List, [], ◌∷◌, ℤ, pos, negsuc, ◌+ℤ◌, map, sym, subst, ⊎_elim, ap, ◌∙◌, arith, length, slice_index_or}
use Rattle.std.specs.Int.{int_shr}
use Rattle.std.specs.Int.RustNames.{unsigned_abs}
use Rattle.std.proofs.lemmas.Int.{ints, clamps}
use Rattle.std.proofs.lemmas.List.{get_or-map, length-map}
use Rattle.std.proofs.lemmas.Bool.{cases_lt}
use Rattle.std.proofs.lemmas.List.Elements.{All-from_get_or}
use mir.Syntax.{w16, w32}
use mir.Val.{SFits}
use Rattle.hv_lemmas.specs.Clipping.{clip1, clip16}
use Rattle.hv_lanes.proofs.LaneStepLemmas.{kept, passed, small_numbers, means_small, clips_kept}
use Rattle.hv_lanes.proofs.PartLemmas.{clip_fits}
use Rattle.hv_inter_model.specs.Interpolation.{weighted_sample}
use Rattle.hv_interp.specs.Lanes.{lane}

abbrev pub mean : ℤ → ℤ
mean z = int_shr (z +ℤ pos 2048) 12

pub all_small : (sums : List ℤ) → ((j : ℕ) → unsigned_abs (lane sums j) ≤ 3670016) → All (λ z. unsigned_abs z ≤ 1073741824) sums
all_small sums small = All-from_get_or (λ z. unsigned_abs z ≤ 1073741824) sums (pos 0) (λ j below. omega (arith, small j))

-- sums that are small pass through the code's own
pub sums_kept : (sums : List ℤ) → ((j : ℕ) → unsigned_abs (lane sums j) ≤ 3670016) → passed w32 sums ≡ sums
sums_kept sums small = kept w32 sums (small_numbers sums (all_small sums small))

-- and so do their means
pub means_fit : (sums means : List ℤ) → ((j : ℕ) → unsigned_abs (lane sums j) ≤ 3670016) → means ≡ map mean (passed w32 sums) →
    (passed w32 means ≡ map mean sums) × ((j : ℕ) → SFits w32 (lane (passed w32 means) j))
means_fit sums means small e =
    let is : means ≡ map mean sums = e ∙ ap (map mean) (sums_kept sums small) in
    let fits : (j : ℕ) → SFits w32 (lane (map mean sums) j) =
    small_numbers (map mean sums) (means_small 12 sums (omega arith) (all_small sums small)) in
    let same : passed w32 means ≡ map mean sums = ap (passed w32) is ∙ kept w32 (map mean sums) fits in
    (same, λ j. subst (λ l. SFits w32 (lane l j)) (sym same) (fits j))

clips_fit : (zs : List ℤ) (j : ℕ) → SFits w16 (lane (map clip16 zs) j)
clips_fit [] j = record { sfits = omega (arith, ints) }
clips_fit (z ∷ zs) zero = clip_fits z
clips_fit (z ∷ zs) (suc j) = clips_fit zs j

pub clips_pass : (zs clips : List ℤ) → clips ≡ map clip16 zs →
    (passed w16 clips ≡ map clip16 zs) × ((j : ℕ) → SFits w16 (lane (passed w16 clips) j))
clips_pass zs clips e =
    let same : passed w16 clips ≡ map clip16 zs = ap (passed w16) e ∙ clips_kept (λ z. z) zs in
    (same, λ j. subst (λ l. SFits w16 (lane l j)) (sym same) (clips_fit zs j))

up : (n m : ℕ) → n < m → negsuc n +ℤ pos m ≡ pos (m - 1 - n)
up n m h = omega (arith, ints, h)

still_below : (n m : ℕ) → m ≤ n → negsuc n +ℤ pos m ≡ negsuc (n - m)
still_below n m h = omega (arith, ints, h)

-- two shifts by 6 and a rounding between are one by 12
shifted_twice : (z : ℤ) → int_shr (z +ℤ pos 2048) 12 ≡ int_shr (int_shr z 6 +ℤ pos 32) 6
shifted_twice (pos n) = let e : (n + 2048) / 4096 ≡ (n / 64 + 32) / 64 = omega arith in ap pos e
shifted_twice (negsuc n) =
    ⊎_elim
    (λ less.
    let none : (2047 - n) / 4096 ≡ (31 - n / 64) / 64 = omega (arith, less) in
    ap (λ z. int_shr z 12) (up n 2048 less) ∙ ap pos none ∙
    sym (ap (λ z. int_shr z 6) (up (n / 64) 32 (omega (arith, less)))))
    (λ more.
    let same : (n - 2048) / 4096 ≡ (n / 64 - 32) / 64 = omega (arith, more) in
    ap (λ z. int_shr z 12) (still_below n 2048 more) ∙ ap negsuc same ∙
    sym (ap (λ z. int_shr z 6) (still_below (n / 64) 32 (omega (arith, more)))))
    (cases_lt n 2048)

sample_is : (z : ℤ) → clip1 (clip16 z) ≡ clip1 z
sample_is z = omega (arith, ints, clamps)

pub sample_of_total : (j : ℕ) (sums : List ℤ) (out : List ℕ) → length sums ≡ 8 → j < 8 → out ≡ map clip1 (map clip16 (map mean sums)) →
    slice_index_or out j 0 ≡ weighted_sample (int_shr (lane sums j) 6)
sample_of_total j sums out eight below e =
    let z : ℤ = lane sums j in
    let first : length (map mean sums) ≡ 8 = length-map sums mean ∙ eight in
    let second : length (map clip16 (map mean sums)) ≡ 8 = length-map (map mean sums) clip16 ∙ first in
    ap (λ l. slice_index_or l j 0) e ∙
    get_or-map clip1 (map clip16 (map mean sums)) j (pos 0) 0 (omega (arith, below, second)) ∙
    ap clip1 (get_or-map clip16 (map mean sums) j (pos 0) (pos 0) (omega (arith, below, first)) ∙
    ap clip16 (get_or-map mean sums j (pos 0) (pos 0) (omega (arith, below, eight)))) ∙
    sample_is (mean z) ∙ ap clip1 (shifted_twice z)
