-- The interpolated samples of a window are those of inter prediction (8.5.3.3.3).
use Rattle.std.proofs.Common.{slice_index_or, drop, ◌≡◌, ℕ, zero, suc, ◌+◌, ◌-◌, ◌*◌, ◌/◌, ◌%◌, ◌^◌, ◌<◌, ◌≤◌, Bool, true, false, List, [], ◌∷◌, ℤ, pos, negsuc, ◌+ℤ◌, ◌-ℤ◌, ◌*ℤ◌, refl, sym, ◌∙◌, ap, ap₂, arith, length, nat_eq, cond}
use Rattle.std.proofs.lemmas.Int.{ints, clamps}
use Rattle.std.proofs.Math.Nat.{add-mul}
use Rattle.std.proofs.lemmas.List.{get_or-drop}
use Rattle.std.specs.Int.RustNames.{unsigned_abs}
use Rattle.hv_lemmas.specs.Clipping.{clip3}
use Rattle.hv_types.specs.Windows.{HoldsBlock}
use Rattle.std.proofs.lemmas.Nat.{mod_below, div_below, div-mul-add, mod-mul-add}
use Rattle.std.specs.Int.{int_shr}
use Rattle.hv_lemmas.specs.Lists.{tabulate}
use Rattle.hv_types.specs.Samples.{Plane, sample_at}
use Rattle.hv_types.proofs.SampleLemmas.{rows_are}
use Rattle.hv_plan.specs.declared.prediction.Mv.{Mv}
use Rattle.hv_inter_model.specs.Interpolation.{weighted, weighted_sample, reference_sample, predSampleLX, taps_of, taps_before, whole_part, fraction, inter_sample, inter_predicted}
use Rattle.hv_interp.specs.Windows.{sample_of, Shows, reference_from}
use Rattle.hv_interp.specs.Filters.{HasFirst, interpolated, predicted}
use Rattle.hv_interp.proofs.SumLemmas.{weighted_same}
use Rattle.hv_interp.proofs.PlaceLemmas.{place_inside}

-- one of four, by two tests
of_four : {A : Type 0} (p q : Bool) (a b c d a' b' c' d' : A) → a ≡ a' → b ≡ b' → c ≡ c' → d ≡ d' →
    cond p (cond q a b) (cond q c d) ≡ cond p (cond q a' b') (cond q c' d')
of_four true true a b c d a' b' c' d' e f g h = e
of_four true false a b c d a' b' c' d' e f g h = f
of_four false true a b c d a' b' c' d' e f g h = g
of_four false false a b c d a' b' c' d' e f g h = h

-- samples that agree as far as the taps of column x of row y reach
pub interpolated_same : (before xFrac yFrac reach x y : ℕ) (across down : List ℤ) (A B : ℕ → ℕ → ℤ) →
    before < reach → length across ≤ reach → length down ≤ reach →
    ((i j : ℕ) → i < x + reach → j < y + reach → A i j ≡ B i j) →
    interpolated before xFrac yFrac across down A x y ≡ interpolated before xFrac yFrac across down B x y
interpolated_same before xFrac yFrac reach x y across down A B near wide high same =
    let here = same (x + before) (y + before) (omega (arith, near)) (omega (arith, near)) in
    of_four (nat_eq xFrac 0) (nat_eq yFrac 0)
    (A (x + before) (y + before) *ℤ pos 64) (weighted down (λ k. A (x + before) (y + k)))
    (weighted across (λ k. A (x + k) (y + before)))
    (int_shr (weighted down (λ j. weighted across (λ i. A (x + i) (y + j)))) 6)
    (B (x + before) (y + before) *ℤ pos 64) (weighted down (λ k. B (x + before) (y + k)))
    (weighted across (λ k. B (x + k) (y + before)))
    (int_shr (weighted down (λ j. weighted across (λ i. B (x + i) (y + j)))) 6)
    (ap (λ z. z *ℤ pos 64) here)
    (weighted_same down (λ k. A (x + before) (y + k)) (λ k. B (x + before) (y + k))
    (λ k below. same (x + before) (y + k) (omega (arith, near)) (omega (arith, below, high))))
    (weighted_same across (λ k. A (x + k) (y + before)) (λ k. B (x + k) (y + before))
    (λ k below. same (x + k) (y + before) (omega (arith, below, wide)) (omega (arith, near))))
    (ap (λ z. int_shr z 6) (weighted_same down (λ j. weighted across (λ i. A (x + i) (y + j)))
    (λ j. weighted across (λ i. B (x + i) (y + j)))
    (λ j low. weighted_same across (λ i. A (x + i) (y + j)) (λ i. B (x + i) (y + j))
    (λ i below. same (x + i) (y + j) (omega (arith, below, wide)) (omega (arith, low, high))))))

-- a window that shows a reference
pub window_shows : (p : Plane) (X Y : ℤ) (before xFrac yFrac taps n k stride : ℕ) (across down : List ℤ) (w : List ℕ) →
    2 * before + 2 ≡ taps → length across ≡ taps → length down ≡ taps → k < n * n →
    Shows p X Y (n + taps - 1) (n + taps - 1) w stride →
    predicted before xFrac yFrac across down (sample_of w stride) n k ≡
    predicted before xFrac yFrac across down (reference_from p X Y) n k
window_shows p X Y before xFrac yFrac taps zero k stride across down w e wide high inside shows = absurd (omega (arith, inside))
window_shows p X Y before xFrac yFrac taps (suc m) k stride across down w e wide high inside shows =
    let n : ℕ = suc m in
    let column = mod_below k n (omega arith) in
    let row = div_below k n n (omega arith) inside in
    ap weighted_sample
    (interpolated_same before xFrac yFrac taps (k % n) (k / n) across down (sample_of w stride) (reference_from p X Y)
    (omega (arith, e)) (omega (arith, wide)) (omega (arith, high))
    (λ i j p q. shows.each i j (omega (arith, p, column)) (omega (arith, q, row))))

shr_none : (z : ℤ) → int_shr z 0 ≡ z
shr_none (pos n) = let e : n / 1 ≡ n = omega arith in ap pos e
shr_none (negsuc n) = let e : n / 1 ≡ n = omega arith in ap negsuc e

-- where columns and rows begin, and the same place by the window's first
moved : (place i k before : ℕ) (whole : ℤ) →
    (pos place +ℤ whole -ℤ pos before) +ℤ pos (i + k) ≡ pos (place + i) +ℤ whole -ℤ pos before +ℤ pos k
moved place i k before whole = omega (arith, ints)

whole_place : (place i before : ℕ) (whole : ℤ) →
    (pos place +ℤ whole -ℤ pos before) +ℤ pos (i + before) ≡ pos (place + i) +ℤ whole
whole_place place i before whole = omega (arith, ints)

-- the sample of 14 bits, by the reference from the window's first place on
pub predSampleLX_is : (is_luma : Bool) (p : Plane) (x y i j xFrac yFrac : ℕ) (right below : ℤ) →
    interpolated (taps_before is_luma) xFrac yFrac (taps_of is_luma xFrac) (taps_of is_luma yFrac)
    (reference_from p (pos x +ℤ right -ℤ pos (taps_before is_luma)) (pos y +ℤ below -ℤ pos (taps_before is_luma))) i j ≡
    predSampleLX is_luma p (pos (x + i) +ℤ right) (pos (y + j) +ℤ below) xFrac yFrac
predSampleLX_is is_luma p x y i j xFrac yFrac right below =
    let before : ℕ = taps_before is_luma in
    let across : List ℤ = taps_of is_luma xFrac in
    let down : List ℤ = taps_of is_luma yFrac in
    let X : ℤ = pos x +ℤ right -ℤ pos before in
    let Y : ℤ = pos y +ℤ below -ℤ pos before in
    let xInt : ℤ = pos (x + i) +ℤ right in
    let yInt : ℤ = pos (y + j) +ℤ below in
    let A : ℕ → ℕ → ℤ = reference_from p X Y in
    let R : ℤ → ℤ → ℤ = reference_sample p in
    let column : ℕ → ℤ = λ k. xInt -ℤ pos before +ℤ pos k in
    let row : ℕ → ℤ = λ k. yInt -ℤ pos before +ℤ pos k in
    let sum_along : (v w : ℤ) → v ≡ w → (f : ℕ → ℤ) → ((k : ℕ) → f k ≡ R (column k) w) →
    weighted across f ≡ int_shr (weighted across (λ k. R (column k) w)) 0 = λ v w e f same.
    weighted_same across f (λ k. R (column k) w) (λ k below. same k) ∙ sym (shr_none _) in
    of_four (nat_eq xFrac 0) (nat_eq yFrac 0)
    (A (i + before) (j + before) *ℤ pos 64) (weighted down (λ k. A (i + before) (j + k)))
    (weighted across (λ k. A (i + k) (j + before)))
    (int_shr (weighted down (λ b. weighted across (λ a. A (i + a) (j + b)))) 6)
    (R xInt yInt *ℤ pos (2 ^ 6)) (int_shr (weighted down (λ k. R xInt (row k))) 0)
    (int_shr (weighted across (λ k. R (column k) yInt)) 0)
    (int_shr (weighted down (λ b. int_shr (weighted across (λ a. R (column a) (row b))) 0)) 6)
    (ap₂ (λ a b. R a b *ℤ pos 64) (whole_place x i before right) (whole_place y j before below))
    (weighted_same down (λ k. A (i + before) (j + k)) (λ k. R xInt (row k))
    (λ k low. ap₂ R (whole_place x i before right) (moved y j k before below)) ∙ sym (shr_none _))
    (weighted_same across (λ k. A (i + k) (j + before)) (λ k. R (column k) yInt)
    (λ k low. ap₂ R (moved x i k before right) (whole_place y j before below)) ∙ sym (shr_none _))
    (ap (λ z. int_shr z 6) (weighted_same down (λ b. weighted across (λ a. A (i + a) (j + b)))
    (λ b. int_shr (weighted across (λ a. R (column a) (row b))) 0)
    (λ b low. weighted_same across (λ a. A (i + a) (j + b)) (λ a. R (column a) (row b))
    (λ a near. ap₂ R (moved x i a before right) (moved y j b before below)) ∙ sym (shr_none _))))

-- a block without rows
no_block : (is_luma : Bool) (p : Plane) (mv : Mv) (x y : ℕ) (out : List ℕ) → length out ≡ 0 →
    out ≡ inter_predicted is_luma p mv x y 0
unfolding inter_predicted tabulate
no_block is_luma p mv x y [] whole = refl
no_block is_luma p mv x y (v ∷ out) whole = absurd (omega (arith, whole))

-- a block of them
pub block_is : (is_luma : Bool) (p : Plane) (mv : Mv) (x y n : ℕ) (out : List ℕ) → length out ≡ n * n →
    HasFirst 0 (n * n)
    (predicted (taps_before is_luma) (fraction is_luma mv.x) (fraction is_luma mv.y)
    (taps_of is_luma (fraction is_luma mv.x)) (taps_of is_luma (fraction is_luma mv.y))
    (reference_from p (pos x +ℤ whole_part is_luma mv.x -ℤ pos (taps_before is_luma))
    (pos y +ℤ whole_part is_luma mv.y -ℤ pos (taps_before is_luma))) n) out →
    out ≡ inter_predicted is_luma p mv x y n
unfolding inter_predicted
block_is is_luma p mv x y zero out whole has = no_block is_luma p mv x y out (omega (arith, whole))
block_is is_luma p mv x y (suc m) out whole has =
    let n : ℕ = suc m in
    let A : ℕ → ℕ → ℤ = reference_from p (pos x +ℤ whole_part is_luma mv.x -ℤ pos (taps_before is_luma))
    (pos y +ℤ whole_part is_luma mv.y -ℤ pos (taps_before is_luma)) in
    let at : ℕ → ℕ → ℕ = λ i j. weighted_sample (interpolated (taps_before is_luma) (fraction is_luma mv.x) (fraction is_luma mv.y)
    (taps_of is_luma (fraction is_luma mv.x)) (taps_of is_luma (fraction is_luma mv.y)) A i j) in
    rows_are n n (λ i j. inter_sample is_luma p mv (x + i) (y + j)) out (omega arith) whole
    (λ i j across below.
    has (j * n + i) (place_inside n n j i below across) ∙
    ap₂ at (mod-mul-add j n i across) (div-mul-add j n i across) ∙
    ap weighted_sample (predSampleLX_is is_luma p x y i j (fraction is_luma mv.x) (fraction is_luma mv.y) (whole_part is_luma mv.x) (whole_part is_luma mv.y)))

-- the same, of what functions gave
pub block_from : (is_luma luma : Bool) (p : Plane) (mv : Mv) (x y n side right below : ℕ) (across down : List ℤ) (X Y : ℤ)
    (out : List ℕ) → luma ≡ is_luma → side ≡ n → length out ≡ n * n →
    right ≡ fraction is_luma mv.x → below ≡ fraction is_luma mv.y →
    across ≡ taps_of is_luma right → down ≡ taps_of is_luma below →
    X ≡ pos x +ℤ whole_part is_luma mv.x -ℤ pos (taps_before is_luma) →
    Y ≡ pos y +ℤ whole_part is_luma mv.y -ℤ pos (taps_before is_luma) →
    HasFirst 0 (side * side) (predicted (taps_before is_luma) right below across down (reference_from p X Y) side) out →
    out ≡ inter_predicted luma p mv x y n
block_from is_luma luma p mv x y n side right below across down X Y out e size whole er eb ea ed eX eY has =
    block_is is_luma p mv x y n out whole
    (λ k inside. has k (rw (size) inside) ∙ rw (ea, ed, er, eb, eX, eY, size) refl) ∙
    ap (λ b. inter_predicted b p mv x y n) (sym e)

-- a coordinate that lies inside is the nearest to itself
own_place : (x side i count : ℕ) → x + count ≤ side → i < count →
    unsigned_abs (clip3 (pos 0) (pos (side - 1)) (pos x +ℤ pos i)) ≡ x + i
own_place x side i count inside below = omega (arith, ints, clamps, inside, below)

-- a block of a plane shows it
pub plane_shows : (p : Plane) (X Y : ℤ) (columns rows stride : ℕ) (samples : List ℕ) →
    X ≡ pos (unsigned_abs X) → Y ≡ pos (unsigned_abs Y) →
    unsigned_abs X + columns ≤ p.width → unsigned_abs Y + rows ≤ p.height →
    stride ≡ p.width → samples ≡ drop (unsigned_abs Y * p.width + unsigned_abs X) p.samples →
    HoldsBlock samples stride columns rows → Shows p X Y columns rows samples stride
plane_shows p X Y columns rows stride samples eX eY across down wide is whole = record {
  whole = whole;
  each = λ i j inside below.
      let x : ℕ = unsigned_abs X in
      let y : ℕ = unsigned_abs Y in
      let column : unsigned_abs (clip3 (pos 0) (pos (p.width - 1)) (X +ℤ pos i)) ≡ x + i =
      ap (λ v. unsigned_abs (clip3 (pos 0) (pos (p.width - 1)) (v +ℤ pos i))) eX ∙ own_place x p.width i columns across inside in
      let row : unsigned_abs (clip3 (pos 0) (pos (p.height - 1)) (Y +ℤ pos j)) ≡ y + j =
      ap (λ v. unsigned_abs (clip3 (pos 0) (pos (p.height - 1)) (v +ℤ pos j))) eY ∙ own_place y p.height j rows down below in
      let place : (y * p.width + x) + (j * p.width + i) ≡ (y + j) * p.width + (x + i) = omega (arith, add-mul y j p.width) in
      ap₂ (λ s w. sample_of s w i j) is wide ∙
      ap pos (get_or-drop (y * p.width + x) p.samples (j * p.width + i) 0 ∙ ap (λ k. slice_index_or p.samples k 0) place) ∙
      ap₂ (λ a b. pos (sample_at p a b)) (sym column) (sym row);
}
