-- Sums of pairs of taps times numbers in lanes of 32 bits, lane by lane.
use Rattle.std.proofs.Common.{◌≡◌, ℕ, zero, suc, ◌+◌, ◌-◌, ◌*◌, ◌%◌, ◌<◌, List, [], ◌∷◌, ◌++◌, ℤ, pos, ◌+ℤ◌, ◌*ℤ◌, map, take, take_all, drop, refl, sym, subst, ap, ap₂, ◌∙◌, ◌≤◌, arith, length}
use Rattle.hv_lemmas.proofs.ComputedLemmas.{each_of_eight}
use Rattle.hv_lanes.proofs.LaneSumLemmas.{below, sum_is}
use Rattle.std.proofs.lemmas.Int.{to_z-of_z, wrapping_mul_is, wrapping_add-bits, int_wrap-add_right, int_wrap_fits}
use Rattle.std.proofs.lemmas.List.{get_or_append_left, get_or-append_right, get_or-map, length-map}
use Rattle.std.proofs.Math.IntN.{*ℤ_comm}
use Rattle.std.specs.Int.{int_wrap}
use lib.Lanes.{zip2}
use lib.ListN.{get_or}
use borrow.Rule.Simd.Lanes.{act2}
use borrow.Table.Row.{s_int}
use mir.Syntax.{wrap_add, w16, w32}
use mir.Val.{of_z, to_z, SFits}
use Rattle.std.specs.Int.RustNames.{unsigned_abs}
use Rattle.std.proofs.lemmas.Int.{fits_signed_from_abs, ints}
use Rattle.std.proofs.lemmas.List.{get_or-take, get_or-drop}
use Rattle.std.proofs.Math.Nat.{add-mul}
use Rattle.hv_lanes.proofs.LaneStepLemmas.{kept}
use Rattle.hv_interp.specs.Filters.{strided_total_of, weight_of}
use Rattle.hv_interp.specs.Lanes.{lane, with_pair, AreTotals}
use Rattle.hv_interp.proofs.PlaceLemmas.{row_part}
use Rattle.hv_interp.proofs.EightSumLemmas.{of_lanes}
use Rattle.hv_interp.proofs.SumLemmas.{strided_total_of_none, strided_total_of_more, size_of_strided_total_of}

-- number k of two rows, one behind the other
abbrev pub number_of : ℕ → List ℤ → List ℤ → ℕ → ℕ
number_of n xs ys k = of_z w32 (to_z w16 (get_or (map (of_z w16) (take n xs) ++ map (of_z w16) (take n ys)) k 0))

abbrev pub pair_of : List ℤ → List ℤ → List ℤ → ℕ → ℕ
pair_of taps first second j =
    (number_of 8 first second j * number_of 2 taps taps 0 % 4294967296 +
    number_of 8 first second (8 + j) * number_of 2 taps taps 1 % 4294967296) % 4294967296

abbrev pub pairs : List ℤ → List ℤ → List ℤ → List ℕ
pairs taps first second =
    let m : ℕ → ℕ = pair_of taps first second in
    m 0 ∷ m 1 ∷ m 2 ∷ m 3 ∷ m 4 ∷ m 5 ∷ m 6 ∷ m 7 ∷ []

abbrev pub added : List ℤ → List ℕ → List ℤ
added sums ms = map (to_z w32) (zip2 (act2 wrap_add (s_int w32) (s_int w32) (s_int w32)) (map (of_z w32) sums) ms)

wide : (z : ℤ) → SFits w16 z → SFits w32 z
wide z f = record { sfits = omega (arith, f) }

left : (n k : ℕ) (xs ys : List ℤ) → length xs ≡ n → k < n → SFits w16 (lane xs k) → number_of n xs ys k ≡ of_z w32 (lane xs k)
left n k xs ys l p f =
    let all : take n xs ≡ xs = take_all n xs (omega (arith, l)) in
    let is : get_or (map (of_z w16) (take n xs) ++ map (of_z w16) (take n ys)) k 0 ≡ of_z w16 (lane xs k) =
    ap (λ v. get_or (map (of_z w16) v ++ map (of_z w16) (take n ys)) k 0) all ∙
    get_or_append_left (map (of_z w16) xs) (map (of_z w16) (take n ys)) 0 k (omega (arith, p, l, length-map xs (of_z w16))) ∙
    get_or-map (of_z w16) xs k (pos 0) 0 (omega (arith, p, l)) in
    ap (λ m. of_z w32 (to_z w16 m)) is ∙ ap (of_z w32) (to_z-of_z w16 (lane xs k) f)

right : (n k : ℕ) (xs ys : List ℤ) → length xs ≡ n → length ys ≡ n → k < n → SFits w16 (lane ys k) →
    number_of n xs ys (n + k) ≡ of_z w32 (lane ys k)
right n k xs ys l m p f =
    let first : take n xs ≡ xs = take_all n xs (omega (arith, l)) in
    let second : take n ys ≡ ys = take_all n ys (omega (arith, m)) in
    let other : n + k - n ≡ k = omega arith in
    let is : get_or (map (of_z w16) (take n xs) ++ map (of_z w16) (take n ys)) (n + k) 0 ≡ of_z w16 (lane ys k) =
    ap₂ (λ v w. get_or (map (of_z w16) v ++ map (of_z w16) w) (n + k) 0) first second ∙
    get_or-append_right (map (of_z w16) xs) (map (of_z w16) ys) n (n + k) 0 (length-map xs (of_z w16) ∙ l) (omega arith) ∙
    ap (λ i. get_or (map (of_z w16) ys) i 0) other ∙
    get_or-map (of_z w16) ys k (pos 0) 0 (omega (arith, p, m)) in
    ap (λ m. of_z w32 (to_z w16 m)) is ∙ ap (of_z w32) (to_z-of_z w16 (lane ys k) f)

pub product_is : (m n : ℕ) (x t : ℤ) → m ≡ of_z w32 x → n ≡ of_z w32 t → SFits w32 x → SFits w32 t →
    to_z w32 (m * n % 4294967296) ≡ int_wrap w32 (t *ℤ x)
product_is m n x t e f fx ft =
    ap₂ (λ a b. to_z w32 (a * b % 4294967296)) e f ∙ wrapping_mul_is w32 x t fx ft ∙ ap (int_wrap w32) (*ℤ_comm x t)

added_at : (n j : ℕ) (sums : List ℤ) (ms : List ℕ) → length sums ≡ n → length ms ≡ n → j < n →
    lane (added sums ms) j ≡ to_z w32 ((of_z w32 (lane sums j) + get_or ms j 0) % 4294967296)
added_at zero j sums ms l m p = absurd (omega (arith, p))
added_at (suc n) j [] ms l m p = absurd (omega arith)
added_at (suc n) j (s ∷ sums) [] l m p = absurd (omega arith)
added_at (suc n) zero (s ∷ sums) (x ∷ ms) l m p = refl
added_at (suc n) (suc j) (s ∷ sums) (x ∷ ms) l m p = added_at n j sums ms (omega arith) (omega arith) (omega (arith, p))

pub length-added : (n : ℕ) (sums : List ℤ) (ms : List ℕ) → length sums ≡ n → length ms ≡ n → length (added sums ms) ≡ n
length-added zero [] ms l m = refl
length-added zero (s ∷ sums) ms l m = absurd (omega arith)
length-added (suc n) [] ms l m = absurd (omega arith)
length-added (suc n) (s ∷ sums) [] l m = absurd (omega arith)
length-added (suc n) (s ∷ sums) (x ∷ ms) l m = ap suc (length-added n sums ms (omega arith) (omega arith))

pub pair_added : (j : ℕ) (sums taps first second : List ℤ) → length sums ≡ 8 → length taps ≡ 2 → length first ≡ 8 → length second ≡ 8 →
    ((i : ℕ) → SFits w32 (lane sums i)) → ((i : ℕ) → SFits w16 (lane taps i)) → ((i : ℕ) → SFits w16 (lane first i)) →
    ((i : ℕ) → SFits w16 (lane second i)) → j < 8 → SFits w32 (with_pair sums taps first second j) →
    lane (added sums (pairs taps first second)) j ≡ with_pair sums taps first second j
pair_added j sums taps first second l two m n fs ft f g p after =
    let x : ℤ = lane first j in
    let y : ℤ = lane second j in
    let s : ℤ = lane sums j in
    let a : ℤ = lane taps 0 in
    let b : ℤ = lane taps 1 in
    let here : get_or (pairs taps first second) j 0 ≡ pair_of taps first second j =
    each_of_eight (λ j. get_or (pairs taps first second) j 0 ≡ pair_of taps first second j) refl refl refl refl refl refl refl refl j p in
    let one : to_z w32 (pair_of taps first second j) ≡ int_wrap w32 ((a *ℤ x) +ℤ (b *ℤ y)) =
    sum_is _ _ (a *ℤ x) (b *ℤ y) (omega arith) (omega arith)
    (product_is _ _ x a (left 8 j first second m p (f j)) (left 2 0 taps taps two (omega arith) (ft 0)) (wide x (f j)) (wide a (ft 0)))
    (product_is _ _ y b (right 8 j first second m n p (g j)) (left 2 1 taps taps two (omega arith) (ft 1)) (wide y (g j)) (wide b (ft 1))) in
    added_at 8 j sums (pairs taps first second) l refl p ∙
    ap (λ m. to_z w32 ((of_z w32 s + m) % 4294967296)) here ∙
    wrapping_add-bits w32 (of_z w32 s) (pair_of taps first second j) (below s (fs j)) (omega arith) ∙
    ap₂ (λ u v. int_wrap w32 (u +ℤ v)) (to_z-of_z w32 s (fs j)) one ∙
    int_wrap-add_right w32 s ((a *ℤ x) +ℤ (b *ℤ y)) ∙ int_wrap_fits w32 (with_pair sums taps first second j) after

-- no sum yet
pub no_pair : (taps numbers lanes : List ℤ) (at step : ℕ) → length lanes ≡ 8 → ((j : ℕ) → lane lanes j ≡ pos 0) →
    AreTotals 0 taps numbers at step (map (to_z w32) (map (of_z w32) lanes))
no_pair taps numbers lanes at step eight none =
    subst (AreTotals 0 taps numbers at step) (sym (kept w32 lanes (λ j. subst (SFits w32) (sym (none j)) (record { sfits = omega arith }))))
    (record { eight = eight; each = λ j below. none j ∙ sym (strided_total_of_none taps numbers (at + j) step) })

pub totals_small : (k : ℕ) (taps numbers lanes : List ℤ) (at step : ℕ) → weight_of taps ≤ 112 →
    ((i : ℕ) → SFits w16 (lane numbers i)) → AreTotals k taps numbers at step lanes →
    (j : ℕ) → unsigned_abs (lane lanes j) ≤ 3670016
totals_small k taps numbers lanes at step light fits sums =
    of_lanes 8 (λ z. unsigned_abs z ≤ 3670016) lanes (omega arith) sums.eight
    (λ j below. subst (λ z. unsigned_abs z ≤ 3670016) (sym (sums.each j below))
    (size_of_strided_total_of k taps numbers (at + j) step light fits))

total_fits : (z : ℤ) → unsigned_abs z ≤ 3670016 → SFits w32 z
total_fits z small = fits_signed_from_abs w32 z (omega (arith, small))

pub totals_fit : (k : ℕ) (taps numbers lanes : List ℤ) (at step : ℕ) → weight_of taps ≤ 112 →
    ((i : ℕ) → SFits w16 (lane numbers i)) → AreTotals k taps numbers at step lanes → (j : ℕ) → SFits w32 (lane lanes j)
totals_fit k taps numbers lanes at step light fits sums j =
    total_fits (lane lanes j) (totals_small k taps numbers lanes at step light fits sums j)

-- two taps more
pub one_pair : (k : ℕ) (taps numbers lanes : List ℤ) (at step : ℕ) → k + 2 ≤ length taps → AreTotals k taps numbers at step lanes →
    (j : ℕ) → j < 8 →
    with_pair lanes (row_part taps k 2) (row_part numbers (at + k * step) 8) (row_part numbers (at + k * step + step) 8) j ≡
    strided_total_of (k + 2) taps numbers (at + j) step
one_pair k taps numbers lanes at step more sums j below =
    let from : ℕ = at + k * step in
    let tap : (i : ℕ) → i < 2 → lane (row_part taps k 2) i ≡ lane taps (k + i) = λ i p.
    get_or-take (k + 2 - k) (drop k taps) i (pos 0) (omega (arith, p)) ∙ get_or-drop k taps i (pos 0) in
    let first : lane (row_part numbers from 8) j ≡ lane numbers (at + j + k * step) =
    get_or-take (from + 8 - from) (drop from numbers) j (pos 0) (omega (arith, below)) ∙ get_or-drop from numbers j (pos 0) ∙
    ap (lane numbers) (omega arith) in
    let second : lane (row_part numbers (from + step) 8) j ≡ lane numbers (at + j + (k + 1) * step) =
    get_or-take (from + step + 8 - (from + step)) (drop (from + step) numbers) j (pos 0) (omega (arith, below)) ∙
    get_or-drop (from + step) numbers j (pos 0) ∙ ap (lane numbers) (omega (arith, add-mul k 1 step)) in
    let a : ℤ = lane taps k *ℤ lane numbers (at + j + k * step) in
    let b : ℤ = lane taps (k + 1) *ℤ lane numbers (at + j + (k + 1) * step) in
    let before : ℤ = strided_total_of k taps numbers (at + j) step in
    let zero_more : k + 0 ≡ k = omega arith in
    let two_more : k + 1 + 1 ≡ k + 2 = omega arith in
    ap₂ (λ s p. s +ℤ p) (sums.each j below)
    (ap₂ (λ p q. p +ℤ q) (ap₂ (λ u v. u *ℤ v) (tap 0 (omega arith) ∙ ap (lane taps) zero_more) first)
    (ap₂ (λ u v. u *ℤ v) (tap 1 (omega arith)) second)) ∙
    regrouped before a b ∙
    sym (ap (λ n. strided_total_of n taps numbers (at + j) step) (sym two_more) ∙
    strided_total_of_more (k + 1) taps numbers (at + j) step (omega (arith, more)) ∙
    ap (λ s. s +ℤ b) (strided_total_of_more k taps numbers (at + j) step (omega (arith, more))))
  where
    regrouped : (s p q : ℤ) → s +ℤ (p +ℤ q) ≡ (s +ℤ p) +ℤ q
    regrouped s p q = omega (arith, ints)

pub one_pair_fits : (k : ℕ) (taps numbers lanes : List ℤ) (at step : ℕ) → weight_of taps ≤ 112 → ((i : ℕ) → SFits w16 (lane numbers i)) →
    k + 2 ≤ length taps → AreTotals k taps numbers at step lanes → (j : ℕ) → j < 8 →
    SFits w32 (with_pair lanes (row_part taps k 2) (row_part numbers (at + k * step) 8) (row_part numbers (at + k * step + step) 8) j)
one_pair_fits k taps numbers lanes at step light fits more sums j below =
    subst (SFits w32) (sym (one_pair k taps numbers lanes at step more sums j below))
    (total_fits _ (size_of_strided_total_of (k + 2) taps numbers (at + j) step light fits))

pub totals_more : (k : ℕ) (taps numbers lanes next : List ℤ) (at step : ℕ) → weight_of taps ≤ 112 → ((i : ℕ) → SFits w16 (lane numbers i)) →
    k + 2 ≤ length taps → AreTotals k taps numbers at step lanes → length next ≡ 8 →
    ((j : ℕ) → j < 8 → lane next j ≡
    with_pair lanes (row_part taps k 2) (row_part numbers (at + k * step) 8) (row_part numbers (at + k * step + step) 8) j) →
    AreTotals (k + 2) taps numbers at step (map (to_z w32) (map (of_z w32) next))
totals_more k taps numbers lanes next at step light fits more sums eight each =
    let all : AreTotals (k + 2) taps numbers at step next =
    record { eight = eight; each = λ j below. each j below ∙ one_pair k taps numbers lanes at step more sums j below } in
    subst (AreTotals (k + 2) taps numbers at step)
    (sym (kept w32 next (totals_fit (k + 2) taps numbers next at step light fits all))) all
