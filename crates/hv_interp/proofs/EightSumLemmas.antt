-- Eight sums in lanes, one tap after another.
use Rattle.std.proofs.Common.{◌≡◌, ℕ, suc, ◌+◌, ◌-◌, ◌*◌, ◌<◌, ◌≤◌, List, [], ◌∷◌, ℤ, pos, ◌+ℤ◌, ◌*ℤ◌, map, refl, sym, ap, ap₂, ◌∙◌, ⊎_elim, subst, arith, length, drop, slice_index_or, Fits, w8}
use Rattle.std.specs.Int.RustNames.{unsigned_abs}
use Rattle.std.proofs.lemmas.Int.{ints, to_z-of_z, fits_signed_from_abs}
use Rattle.std.proofs.lemmas.Bool.{cases_lt}
use Rattle.std.proofs.lemmas.List.{get_or_past, get_or-take, get_or-drop}
use mir.Syntax.{w16}
use mir.Val.{of_z, to_z, SFits}
use Rattle.hv_interp.specs.Filters.{placed_sum_of, weight_of}
use Rattle.hv_interp.specs.Lanes.{lane, with_tap, AreSums}
use Rattle.hv_interp.proofs.PlaceLemmas.{row_part, length-row_part}
use Rattle.hv_interp.proofs.SumLemmas.{placed_sum_of_none, placed_sum_of_more, size_of_placed_sum_of}

-- numbers of 16 bits are kept by both casts
pub kept : (zs : List ℤ) → ((k : ℕ) → SFits w16 (lane zs k)) → map (to_z w16) (map (of_z w16) zs) ≡ zs
kept [] f = refl
kept (z ∷ zs) f = ap₂ (λ a b. a ∷ b) (to_z-of_z w16 z (f 0)) (kept zs (λ k. f (suc k)))

fits : (z : ℤ) → unsigned_abs z ≤ 28560 → SFits w16 z
fits z small = fits_signed_from_abs w16 z (omega (arith, small))

-- what holds of 0 and of each of some lanes holds of every lane
pub of_lanes : (n : ℕ) (P : ℤ → Type 0) (lanes : List ℤ) → P (pos 0) → length lanes ≡ n →
    ((j : ℕ) → j < n → P (lane lanes j)) → (j : ℕ) → P (lane lanes j)
of_lanes n P lanes none count each j =
    ⊎_elim (λ inside. each j inside)
    (λ beyond. subst P (sym (get_or_past lanes j (pos 0) (omega (arith, beyond, count)))) none)
    (cases_lt j n)

pub sums_small : (k : ℕ) (taps : List ℤ) (samples : List ℕ) (place : ℕ → ℕ → ℕ) (lanes : List ℤ) → weight_of taps ≤ 112 →
    ((i : ℕ) → Fits w8 (slice_index_or samples i 0)) → AreSums k taps samples place lanes →
    (j : ℕ) → unsigned_abs (lane lanes j) ≤ 28560
sums_small k taps samples place lanes light bytes sums =
    of_lanes 8 (λ z. unsigned_abs z ≤ 28560) lanes (omega arith) sums.eight
    (λ j below. subst (λ z. unsigned_abs z ≤ 28560) (sym (sums.each j below))
    (size_of_placed_sum_of k taps samples (place j) light bytes))

pub sums_fit : (k : ℕ) (taps : List ℤ) (samples : List ℕ) (place : ℕ → ℕ → ℕ) (lanes : List ℤ) → weight_of taps ≤ 112 →
    ((i : ℕ) → Fits w8 (slice_index_or samples i 0)) → AreSums k taps samples place lanes →
    (j : ℕ) → SFits w16 (lane lanes j)
sums_fit k taps samples place lanes light bytes sums j =
    fits (lane lanes j) (sums_small k taps samples place lanes light bytes sums j)

pub no_tap : (taps : List ℤ) (samples : List ℕ) (place : ℕ → ℕ → ℕ) (lanes : List ℤ) → length lanes ≡ 8 →
    ((j : ℕ) → lane lanes j ≡ pos 0) → AreSums 0 taps samples place (map (to_z w16) (map (of_z w16) lanes))
no_tap taps samples place lanes eight none =
    let fit : (j : ℕ) → SFits w16 (lane lanes j) = λ j. subst (SFits w16) (sym (none j)) (fits (pos 0) (omega arith)) in
    subst (AreSums 0 taps samples place) (sym (kept lanes fit))
    (record { eight = eight; each = λ j below. none j ∙ sym (placed_sum_of_none taps samples (place j)) })

-- one tap more
pub one_tap : (k : ℕ) (taps : List ℤ) (samples : List ℕ) (at step : ℕ) (lanes : List ℤ) (tap : ℤ) → k < length taps →
    tap ≡ slice_index_or taps k (pos 0) → AreSums k taps samples (λ j k. at + j + k * step) lanes → (j : ℕ) → j < 8 →
    with_tap lanes tap (row_part samples (at + k * step) 8) j ≡ placed_sum_of (k + 1) taps samples (λ k. at + j + k * step)
one_tap k taps samples at step lanes tap more is sums j below =
    let from : ℕ = at + k * step in
    let sample : slice_index_or (row_part samples from 8) j 0 ≡ slice_index_or samples (at + j + k * step) 0 =
    get_or-take (from + 8 - from) (drop from samples) j 0 (omega (arith, below)) ∙ get_or-drop from samples j 0 ∙
    ap (λ i. slice_index_or samples i 0) (omega arith) in
    ap₂ (λ a b. a +ℤ b) (sums.each j below) (ap₂ (λ a b. a *ℤ pos b) is sample) ∙
    sym (placed_sum_of_more k taps samples (λ k. at + j + k * step) more)

pub one_tap_fits : (k : ℕ) (taps : List ℤ) (samples : List ℕ) (at step : ℕ) (lanes : List ℤ) (tap : ℤ) → weight_of taps ≤ 112 →
    ((i : ℕ) → Fits w8 (slice_index_or samples i 0)) → k < length taps → at + k * step + 8 ≤ length samples →
    tap ≡ slice_index_or taps k (pos 0) → AreSums k taps samples (λ j k. at + j + k * step) lanes → (j : ℕ) →
    SFits w16 (with_tap lanes tap (row_part samples (at + k * step) 8) j)
one_tap_fits k taps samples at step lanes tap light bytes more room is sums j =
    let part : List ℕ = row_part samples (at + k * step) 8 in
    ⊎_elim
    (λ inside. subst (SFits w16) (sym (one_tap k taps samples at step lanes tap more is sums j inside))
    (fits (placed_sum_of (k + 1) taps samples (λ k. at + j + k * step)) (size_of_placed_sum_of (k + 1) taps samples (λ k. at + j + k * step) light bytes)))
    (λ beyond.
    let none : lane lanes j ≡ pos 0 = get_or_past lanes j (pos 0) (omega (arith, beyond, sums.eight)) in
    let past : slice_index_or part j 0 ≡ 0 = get_or_past part j 0 (omega (arith, beyond, length-row_part samples (at + k * step) 8 room)) in
    let e : with_tap lanes tap part j ≡ pos 0 = ap₂ (λ a b. a +ℤ (tap *ℤ pos b)) none past ∙ omega (arith, ints) in
    subst (SFits w16) (sym e) (fits (pos 0) (omega arith)))
    (cases_lt j 8)

pub sums_more : (k : ℕ) (taps : List ℤ) (samples : List ℕ) (at step : ℕ) (lanes next : List ℤ) (tap : ℤ) → weight_of taps ≤ 112 →
    ((i : ℕ) → Fits w8 (slice_index_or samples i 0)) → k < length taps →
    tap ≡ slice_index_or taps k (pos 0) → AreSums k taps samples (λ j k. at + j + k * step) lanes → length next ≡ 8 →
    ((j : ℕ) → j < 8 → lane next j ≡ with_tap lanes tap (row_part samples (at + k * step) 8) j) →
    AreSums (k + 1) taps samples (λ j k. at + j + k * step) (map (to_z w16) (map (of_z w16) next))
sums_more k taps samples at step lanes next tap light bytes more is sums eight each =
    let all : AreSums (k + 1) taps samples (λ j k. at + j + k * step) next =
    record { eight = eight; each = λ j below. each j below ∙ one_tap k taps samples at step lanes tap more is sums j below } in
    subst (AreSums (k + 1) taps samples (λ j k. at + j + k * step)) (sym (kept next (sums_fit (k + 1) taps samples (λ j k. at + j + k * step) next light bytes all))) all

pub small_fit : (lanes : List ℤ) → ((j : ℕ) → unsigned_abs (lane lanes j) ≤ 28560) → (j : ℕ) → SFits w16 (lane lanes j)
small_fit lanes small j = fits (lane lanes j) (small j)

pub kept_small : (lanes : List ℤ) → ((j : ℕ) → unsigned_abs (lane lanes j) ≤ 28560) →
    (j : ℕ) → unsigned_abs (lane (map (to_z w16) (map (of_z w16) lanes)) j) ≤ 28560
kept_small lanes small j =
    subst (λ l. unsigned_abs (lane l j) ≤ 28560) (sym (kept lanes (small_fit lanes small))) (small j)
