-- Four lanes, whose numbers are known up to wrapping.
use Rattle.std.proofs.Common.{◌++◌, length, All}
use Rattle.std.proofs.lemmas.Int.{int_wrap_fits, fits_signed_from_abs}
use Rattle.std.proofs.lemmas.List.{get_or_append_left, get_or-append_right, get_or-map, length-map}
use Rattle.std.proofs.Common.{length-append}
use Rattle.std.proofs.lemmas.List.Elements.{All-from_get_or}
use Rattle.hv_lemmas.specs.Clipping.{clip16}
use Rattle.hv_sample_model.specs.Quantisation.{rounded}
use Rattle.hv_lanes.specs.Passes.{HasFirst}
use Rattle.hv_lanes.specs.Lanes.{at}
use Rattle.std.proofs.Common.{unsigned_abs, List, ap, ap₂, arith, map, nat_eq, pos, refl, subst, suc, sym, true, zero, ℕ, ℤ, ◌+ℤ◌, ◌+◌, ◌-◌, ◌<◌, ◌∙◌, ◌≡◌, ◌≤◌}
use Rattle.std.proofs.lemmas.Int.{SFits-int_wrap, ints}
use Rattle.std.proofs.lemmas.List.{get_or_past}
use Rattle.std.proofs.lemmas.Bool.{cases_lt}
use mathlib.Core.Logic.{⊎_elim}
use mir.Syntax.{w32}
use mir.Val.{SFits, to_z}
use Rattle.hv_lanes.specs.Lanes.{FourLanes, Numbers32}
use Rattle.hv_lanes.proofs.LaneStepLemmas.{added, added_at, kept, length-added, passed}
use Rattle.std.specs.Int.{int_wrap}
use Rattle.hv_lanes.proofs.LaneSumLemmas.{joined}
use Rattle.std.specs.Prelude.{not}
use Rattle.std.proofs.lemmas.Bool.Decides.{nat_tests}

pub numbers_of_lanes : (f : ℕ → ℤ) (v : List ℤ) → FourLanes f v → Numbers32 v
numbers_of_lanes f v h k =
    ⊎_elim
    (λ (below : k < 4). subst (SFits w32) (sym (h.each k below)) (SFits-int_wrap w32 (f k)))
    (λ (past : 4 ≤ k). subst (SFits w32) (sym (get_or_past v k (pos 0) (omega (arith, past, h.count)))) (record { sfits = omega (arith, ints) }))
    (cases_lt k 4)

pub kept_lanes : (f : ℕ → ℤ) (v : List ℤ) → FourLanes f v → passed w32 v ≡ v
kept_lanes f v h = kept w32 v (numbers_of_lanes f v h)

pub same_lanes : (f g : ℕ → ℤ) (v : List ℤ) → ((j : ℕ) → j < 4 → f j ≡ g j) → FourLanes f v → FourLanes g v
same_lanes f g v same h = record { count = h.count; each = λ j below. h.each j below ∙ ap (int_wrap w32) (same j below) }

pub kept_four : (f : ℕ → ℤ) (v : List ℤ) → FourLanes f v → FourLanes f (passed w32 v)
kept_four f v h = subst (FourLanes f) (sym (kept_lanes f v h)) h

pub lanes_of_sum : (f g : ℕ → ℤ) (a b : List ℤ) → FourLanes f a → FourLanes g b → FourLanes (λ j. f j +ℤ g j) (map (to_z w32) (added a b))
lanes_of_sum f g a b h k =
    record {
      count = length-added 4 a b h.count k.count;
      each = λ j below.
          added_at 4 j a b h.count k.count (numbers_of_lanes f a h) (numbers_of_lanes g b k) below ∙
          ap₂ (λ x y. int_wrap w32 (x +ℤ y)) (h.each j below) (k.each j below) ∙
          joined (f j) (g j);
    }

abbrev pub IsSum : List ℤ → List ℤ → List ℤ → Type 0
IsSum a b r = (f g : ℕ → ℤ) → FourLanes f (passed w32 a) → FourLanes g (passed w32 b) → FourLanes (λ j. f j +ℤ g j) r

-- a constant that isn't 0 is true
pub is_set : (n : ℕ) → (n ≡ 0 → ⊥) → not (nat_eq n 0) ≡ true
is_set zero h = absurd (h refl)
is_set (suc n) h = grind (arith, nat_tests)

-- lanes whose numbers are small are these numbers
pub exact : (f : ℕ → ℤ) (v : List ℤ) → ((j : ℕ) → j < 4 → unsigned_abs (f j) ≤ 1073741824) → FourLanes f v → (j : ℕ) → j < 4 → at v j ≡ f j
exact f v small h j below = h.each j below ∙ int_wrap_fits w32 (f j) (fits_signed_from_abs w32 (f j) (omega (arith, small j below)))

pub small_lanes : (f : ℕ → ℤ) (v : List ℤ) → ((j : ℕ) → j < 4 → unsigned_abs (f j) ≤ 1073741824) → FourLanes f v → All (λ z. unsigned_abs z ≤ 1073741824) (passed w32 v)
small_lanes f v small h =
    subst (All (λ z. unsigned_abs z ≤ 1073741824)) (sym (kept_lanes f v h))
    (All-from_get_or (λ z. unsigned_abs z ≤ 1073741824) v (pos 0)
    (λ j below.
    let inside : j < 4 = omega (arith, below, h.count) in
    rw (exact f v small h j inside) (small j inside)))

-- eight means
pub eight_means : (f : ℕ → ℤ) (s : ℕ) (a b out : List ℤ) → ((u : ℕ) → u < 8 → unsigned_abs (f u) ≤ 1073741824) → FourLanes f a → FourLanes (λ j. f (4 + j)) b
    → out ≡ map (λ z. clip16 (rounded z s)) (passed w32 a ++ passed w32 b) → (length out ≡ 8) × HasFirst 8 (λ u. clip16 (rounded (f u) s)) out
eight_means f s a b out small h k e =
    let mean : ℤ → ℤ = λ z. clip16 (rounded z s) in
    let is : out ≡ map mean (a ++ b) = e ∙ ap₂ (λ x y. map mean (x ++ y)) (kept_lanes _ a h) (kept_lanes _ b k) in
    let both : length (a ++ b) ≡ 8 = length-append a b ∙ ap₂ (λ x y. x + y) h.count k.count in (
      ap length is ∙ length-map (a ++ b) mean ∙ both,
      λ m below.
          ap (λ v. at v m) is ∙ get_or-map mean (a ++ b) m (pos 0) (pos 0) (omega (arith, below, both)) ∙
          ap mean
          (⊎_elim
          (λ (less : m < 4).
          get_or_append_left a b (pos 0) m (omega (arith, less, h.count)) ∙ exact f a (λ j p. small j (omega (arith, p))) h m less)
          (λ (more : 4 ≤ m).
          let place : 4 + (m - 4) ≡ m = omega (arith, more) in
          get_or-append_right a b 4 m (pos 0) h.count more ∙
          exact (λ j. f (4 + j)) b (λ j p. small (4 + j) (omega (arith, p))) k (m - 4) (omega (arith, below, more)) ∙ ap f place)
          (cases_lt m 4)),
    )
