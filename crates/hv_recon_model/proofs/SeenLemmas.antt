-- What is seen from a coding tree block before a transform block of it is decoded, and behind it:
-- its neighbours are those of the picture (6.4.1, 8.4.4.2.2), and what is seen behind it are its
-- own samples beside those before.
use Rattle.std.proofs.Common.{◌≡◌, ℕ, zero, suc, ◌+◌, ◌-◌, ◌*◌, ◌^◌, ◌<◌, ◌≤◌, Bool, true, false, cond, List, ◌++◌, refl, sym, ap, ap₂, subst, ◌∙◌, arith, ◌⊎◌, inl, inr}
use Rattle.std.specs.Prelude.{nat_eq, nat_le, nat_lt, not, ◌&&◌, ◌||◌, slice_index_or, Option, Some, None}
use Rattle.std.proofs.lemmas.Bool.{cases_lt, and_parts, leb-true, ltb-true, lt-ltb}
use Rattle.std.proofs.lemmas.Bool.Decides.{nat_tests}
use Rattle.hv_lemmas.proofs.ListLemmas.{tabulate-same}
use Rattle.hv_recon_model.specs.Reconstruction.{Component, square_at, left_of, above_of, neighbours, is_in, with_block}
use Rattle.hv_recon_model.specs.SeenSamples.{Spot, SamplesAround, by_rows, comes_before, sample_at_left, sample_above, sample_inside, is_behind_edges, is_in_picture, look_around, look_picture, IsSeen, seen_line, IsPut}

-- ---- the neighbours

turned : (off on : Bool) (v w : Option ℕ) → on ≡ not off → v ≡ w → cond off None v ≡ cond on w None
turned true on v w e same = ap (λ t. cond t w None) (sym e)
turned false on v w e same = same ∙ ap (λ t. cond t w None) (sym e)

left_in_picture : (s : Spot) (samples : Component) (x y log2 i : ℕ) → 1 ≤ s.side →
    left_of samples (square_at (s.left + x) (s.top + y) log2) i ≡
    look_picture s samples (s.side + x - 1) (s.side + y + i - 1)
unfolding look_picture
left_in_picture s samples x y log2 zero some =
    turned (nat_eq (s.left + x) 0 || nat_eq (s.top + y) 0) _ _ _ (grind (arith, nat_tests, some))
    (ap₂ samples (omega (arith, some)) (omega (arith, some)))
left_in_picture s samples x y log2 (suc i) some =
    turned (nat_eq (s.left + x) 0) _ _ _ (grind (arith, nat_tests, some))
    (ap₂ samples (omega (arith, some)) (omega (arith, some)))

above_in_picture : (s : Spot) (samples : Component) (x y log2 i : ℕ) → 1 ≤ s.side →
    above_of samples (square_at (s.left + x) (s.top + y) log2) i ≡
    look_picture s samples (s.side + x + i) (s.side + y - 1)
unfolding look_picture
above_in_picture s samples x y log2 i some =
    turned (nat_eq (s.top + y) 0) _ _ _ (grind (arith, nat_tests, some))
    (ap₂ samples (omega (arith, some)) (omega (arith, some)))

-- a block lies in a coding tree block
pub record FitsIn (side x y log2 : ℕ) : Type 0 where
  pub some : 1 ≤ 2 ^ log2
  pub across : x + 2 ^ log2 ≤ side
  pub down : y + 2 ^ log2 ≤ side

pub neighbours_seen : (s : Spot) (around : SamplesAround) (own : List ℕ) (address : ℕ)
    (samples : Component) (x y log2 : ℕ) → FitsIn s.side x y log2 →
    IsSeen s around own address samples →
    neighbours samples (square_at (s.left + x) (s.top + y) log2) ≡
    seen_line s around own address x y log2
neighbours_seen s around own address samples x y log2 fits seen =
    let n : ℕ = 2 * 2 ^ log2 in
    let some : 1 ≤ s.side = omega (arith, fits.some, fits.across) in
    ap₂ (λ a b. a ++ b)
    (tabulate-same (n + 1) _ _ (λ i below.
    left_in_picture s samples x y log2 (n - i) some ∙
    seen.sample (s.side + x - 1) (s.side + y + (n - i) - 1) (omega (arith, some))
    (omega (arith, fits.some, fits.across)) (omega (arith, some))
    (omega (arith, fits.some, fits.down))))
    (tabulate-same n _ _ (λ i below.
    above_in_picture s samples x y log2 i some ∙
    seen.sample (s.side + x + i) (s.side + y - 1) (omega (arith, some))
    (omega (arith, below, fits.across)) (omega (arith, some))
    (omega (arith, fits.some, fits.down))))

-- ---- behind the block

-- the block is the part of the coding tree block that comes behind one address and before the other
pub record ComesBetween (side x y log2 address next : ℕ) : Type 0 where
  pub apart : (p q : ℕ) → p < side → q < side → comes_before side address p q ≡ true →
      is_in (square_at x y log2) p q ≡ false
  pub sample : (p q : ℕ) → p < side → q < side →
      comes_before side next p q ≡ is_in (square_at x y log2) p q || comes_before side address p q

-- it lies in the picture
pub record FitsInPicture (s : Spot) (x y log2 : ℕ) : Type 0 where
  pub across : s.left + x + 2 ^ log2 ≤ s.width
  pub down : s.top + y + 2 ^ log2 ≤ s.height

outside_both : (behind in_width in_height : Bool) (v w : Option ℕ) → behind ≡ false →
    cond behind v None ≡ cond (behind && in_width && in_height) w None
outside_both true in_width in_height v w off = absurd cc
outside_both false in_width in_height v w off = refl

-- a block that begins so far behind an edge, in the picture and in the coding tree block
is_in_moved : (left top x y log2 p q : ℕ) →
    is_in (square_at (left + x) (top + y) log2) (left + p) (top + q) ≡
    is_in (square_at x y log2) p q
is_in_moved left top x y log2 p q = λ j.
    moved_1 j && moved_2 j && moved_3 j && moved_4 j where
      moved_1 : nat_le (left + x) (left + p) ≡ nat_le x p
      moved_1 = grind (arith, nat_tests)

      moved_2 : nat_lt (left + p) (left + x + 2 ^ log2) ≡ nat_lt p (x + 2 ^ log2)
      moved_2 = grind (arith, nat_tests)

      moved_3 : nat_le (top + y) (top + q) ≡ nat_le y q
      moved_3 = grind (arith, nat_tests)

      moved_4 : nat_lt (top + q) (top + y + 2 ^ log2) ≡ nat_lt q (y + 2 ^ log2)
      moved_4 = grind (arith, nat_tests)

-- the sample of a block in its own column and row
abbrev in_block : ℕ → ℕ → ℕ → List ℕ → ℕ → ℕ → Option ℕ
in_block x y log2 block p q = Some (slice_index_or block ((q - y) * 2 ^ log2 + (p - x)) 0)

block_moved : (left top x y log2 : ℕ) (block : List ℕ) (samples : Component) (p q : ℕ) →
    with_block samples (square_at (left + x) (top + y) log2) block (left + p) (top + q) ≡
    cond (is_in (square_at x y log2) p q) (in_block x y log2 block p q)
    (samples (left + p) (top + q))
block_moved left top x y log2 block samples p q =
    let across : left + p - (left + x) ≡ p - x = omega arith in
    let down : top + q - (top + y) ≡ q - y = omega arith in
    λ j. cond (is_in_moved left top x y log2 p q j)
    (Some (slice_index_or block (down j * 2 ^ log2 + across j) 0)) (samples (left + p) (top + q))

-- a sample that isn't at the left of the coding tree block or above it

picture_inside : (s : Spot) (samples : Component) (p q : ℕ) →
    look_picture s samples (s.side + p) (s.side + q) ≡ samples (s.left + p) (s.top + q)
unfolding look_picture
picture_inside s samples p q =
    let behind : is_behind_edges s (s.side + p) (s.side + q) ≡ true = grind (arith, nat_tests) in
    ap (λ t. cond t (samples (s.left + (s.side + p) - s.side) (s.top + (s.side + q) - s.side)) None)
    behind ∙ ap₂ samples (omega arith) (omega arith)

abbrev is_in_sides : Spot → ℕ → ℕ → Bool
is_in_sides s p q = nat_lt (s.left + p) s.width && nat_lt (s.top + q) s.height

around_inside : (s : Spot) (around : SamplesAround) (own : List ℕ) (address p q : ℕ) →
    look_around s around own address (s.side + p) (s.side + q) ≡
    cond (is_in_sides s p q) (sample_inside s.side own address p q) None
unfolding look_around
around_inside s around own address p q =
    let test : is_in_picture s (s.side + p) (s.side + q) ≡ is_in_sides s p q =
    grind (arith, nat_tests) in
    let right : nat_lt (s.side + p) s.side ≡ false = grind (arith, nat_tests) in
    let below : nat_lt (s.side + q) s.side ≡ false = grind (arith, nat_tests) in
    let across : s.side + p - s.side ≡ p = omega arith in
    let down : s.side + q - s.side ≡ q = omega arith in
    λ j. cond (test j) (cond (right j) (sample_at_left s.side around (s.side + q))
    (cond (below j) (sample_above s.side around (s.side + p))
    (sample_inside s.side own address (across j) (down j)))) None

-- a sample of the coding tree block itself that is decoded
pub own_sample : (s : Spot) (around : SamplesAround) (own : List ℕ) (address : ℕ)
    (samples : Component) (p q : ℕ) → p < s.side → q < s.side → s.left + p < s.width →
    s.top + q < s.height → comes_before s.side address p q ≡ true →
    IsSeen s around own address samples →
    samples (s.left + p) (s.top + q) ≡ by_rows s.side own p q
own_sample s around own address samples p q across down wide high before seen =
    let inside : nat_lt p s.side && nat_lt q s.side && comes_before s.side address p q ≡ true =
    λ j. lt-ltb _ _ across j && lt-ltb _ _ down j && before j in
    let sides : is_in_sides s p q ≡ true = λ j. lt-ltb _ _ wide j && lt-ltb _ _ high j in
    sym (picture_inside s samples p q) ∙
    seen.sample (s.side + p) (s.side + q) (omega arith) (omega (arith, across)) (omega arith)
    (omega (arith, down)) ∙
    around_inside s around own address p q ∙
    (λ j. cond (sides j) (cond (inside j) (by_rows s.side own p q) None) None)

in_bounds : (x y log2 p q : ℕ) → is_in (square_at x y log2) p q ≡ true →
    (x ≤ p) × (p < x + 2 ^ log2) × (y ≤ q) × (q < y + 2 ^ log2)
in_bounds x y log2 p q inside =
    let a = and_parts _ _ inside in
    let b = and_parts _ _ a.0 in
    let c = and_parts _ _ b.0 in
    (leb-true _ _ c.0, ltb-true _ _ c.1, leb-true _ _ b.1, ltb-true _ _ a.1)

-- in the block
behind_in_block : (s : Spot) (around : SamplesAround) (block old new : List ℕ)
    (address next x y log2 p q : ℕ) → FitsIn s.side x y log2 → FitsInPicture s x y log2 →
    ComesBetween s.side x y log2 address next → IsPut s.side x y log2 block old new →
    is_in (square_at x y log2) p q ≡ true →
    in_block x y log2 block p q ≡ look_around s around new next (s.side + p) (s.side + q)
behind_in_block s around block old new address next x y log2 p q fits inside between put here =
    let at = in_bounds x y log2 p q here in
    let across : p < s.side = omega (arith, at.1, fits.across) in
    let down : q < s.side = omega (arith, at.3, fits.down) in
    let wide : s.left + p < s.width = omega (arith, at.1, inside.across) in
    let high : s.top + q < s.height = omega (arith, at.3, inside.down) in
    let sides : is_in_sides s p q ≡ true =
    λ j. lt-ltb _ _ wide j && lt-ltb _ _ high j in
    let before : comes_before s.side next p q ≡ true =
    between.sample p q across down ∙ ap (λ t. t || comes_before s.side address p q) here in
    let value : by_rows s.side new p q ≡ in_block x y log2 block p q =
    put.sample p q across down ∙
    ap (λ t. cond t (in_block x y log2 block p q) (by_rows s.side old p q)) here in
    sym (around_inside s around new next p q ∙
    (λ j. cond (sides j) (cond (lt-ltb _ _ across j && lt-ltb _ _ down j && before j) (value j) None)
    None))

-- elsewhere in the coding tree block
kept_inside : (side : ℕ) (block old new : List ℕ) (address next x y log2 p q : ℕ) →
    ComesBetween side x y log2 address next → IsPut side x y log2 block old new →
    is_in (square_at x y log2) p q ≡ false →
    sample_inside side old address p q ≡ sample_inside side new next p q
kept_inside side block old new address next x y log2 p q between put off =
    elim (cases_lt p side) [
      | inl across ↦ elim (cases_lt q side) [
        | inl down ↦
            let before : comes_before side next p q ≡ comes_before side address p q =
            between.sample p q across down ∙ ap (λ t. t || comes_before side address p q) off in
            let value : by_rows side new p q ≡ by_rows side old p q =
            put.sample p q across down ∙
            ap (λ t. cond t (in_block x y log2 block p q) (by_rows side old p q)) off in
            sym (λ j. cond (nat_lt p side && nat_lt q side && before j) (value j) None)
        | inr low ↦
            let none : nat_lt q side ≡ false = grind (arith, nat_tests, low) in
            beyond (nat_lt p side) (nat_lt q side) _ _ _ _ (inr none)
      ]
      | inr far ↦
          let none : nat_lt p side ≡ false = grind (arith, nat_tests, far) in
          beyond (nat_lt p side) (nat_lt q side) _ _ _ _ (inl none)
    ] where
      beyond : (a b c d : Bool) (v w : Option ℕ) → (a ≡ false) ⊎ (b ≡ false) →
          cond (a && b && c) v None ≡ cond (a && b && d) w None
      beyond true true c d v w (inl off) = absurd cc
      beyond true true c d v w (inr off) = absurd cc
      beyond true false c d v w off = refl
      beyond false b c d v w off = refl

-- from the coding tree block's first column and row on
behind_inside : (s : Spot) (around : SamplesAround) (block old new : List ℕ)
    (address next x y log2 : ℕ) (samples : Component) → FitsIn s.side x y log2 →
    FitsInPicture s x y log2 → ComesBetween s.side x y log2 address next →
    IsPut s.side x y log2 block old new → IsSeen s around old address samples → (p q : ℕ) →
    p < 2 * s.side → q < 2 * s.side →
    look_picture s (with_block samples (square_at (s.left + x) (s.top + y) log2) block)
    (s.side + p) (s.side + q) ≡
    look_around s around new next (s.side + p) (s.side + q)
behind_inside s around block old new address next x y log2 samples fits inside between put seen p q
    across down =
    picture_inside s _ p q ∙ block_moved s.left s.top x y log2 block samples p q ∙
    by (is_in (square_at x y log2) p q) refl where
      kept : samples (s.left + p) (s.top + q) ≡
          cond (is_in_sides s p q) (sample_inside s.side old address p q) None
      kept =
          sym (picture_inside s samples p q) ∙
          seen.sample (s.side + p) (s.side + q) (omega arith) (omega (arith, across)) (omega arith)
          (omega (arith, down)) ∙
          around_inside s around old address p q

      by : (test : Bool) → is_in (square_at x y log2) p q ≡ test →
          cond test (in_block x y log2 block p q) (samples (s.left + p) (s.top + q)) ≡
          look_around s around new next (s.side + p) (s.side + q)
      by true here =
          behind_in_block s around block old new address next x y log2 p q fits inside between put here
      by false off =
          kept ∙
          ap (λ v. cond (is_in_sides s p q) v None)
          (kept_inside s.side block old new address next x y log2 p q between put off) ∙
          sym (around_inside s around new next p q)

-- at its left, and above it

not_in_left : (left top x y log2 p q : ℕ) → p < left ⊎ q < top →
    is_in (square_at (left + x) (top + y) log2) p q ≡ false
not_in_left left top x y log2 p q (inl before) = grind (arith, nat_tests, before)
not_in_left left top x y log2 p q (inr before) = grind (arith, nat_tests, before)

own_unread : (left above test : Bool) (v w old new : Option ℕ) → left ≡ true ⊎ above ≡ true →
    cond test (cond left v (cond above w old)) None ≡
    cond test (cond left v (cond above w new)) None
own_unread true above test v w old new before = refl
own_unread false true test v w old new before = refl
own_unread false false test v w old new (inl e) = absurd cc
own_unread false false test v w old new (inr e) = absurd cc

around_outside : (s : Spot) (around : SamplesAround) (old new : List ℕ) (address next x y : ℕ) →
    x < s.side ⊎ y < s.side →
    look_around s around old address x y ≡ look_around s around new next x y
unfolding look_around
around_outside s around old new address next x y before =
    own_unread (nat_lt x s.side) (nat_lt y s.side) (is_in_picture s x y)
    (sample_at_left s.side around y) (sample_above s.side around x)
    (sample_inside s.side old address (x - s.side) (y - s.side))
    (sample_inside s.side new next (x - s.side) (y - s.side)) (tests before) where
      tests : x < s.side ⊎ y < s.side → nat_lt x s.side ≡ true ⊎ nat_lt y s.side ≡ true
      tests (inl h) = inl (lt-ltb x s.side h)
      tests (inr h) = inr (lt-ltb y s.side h)

picture_outside : (s : Spot) (samples : Component) (block : List ℕ) (x y log2 p q : ℕ) →
    p < s.side ⊎ q < s.side →
    look_picture s (with_block samples (square_at (s.left + x) (s.top + y) log2) block) p q ≡
    look_picture s samples p q
unfolding look_picture
picture_outside s samples block x y log2 p q before =
    by (nat_le s.side (s.left + p)) refl (nat_le s.side (s.top + q)) refl where
      off : s.side ≤ s.left + p → s.side ≤ s.top + q → (b : p < s.side ⊎ q < s.side) →
          is_in (square_at (s.left + x) (s.top + y) log2) (s.left + p - s.side) (s.top + q - s.side) ≡
          false
      off h k (inl left) =
          not_in_left s.left s.top x y log2 _ _ (inl (omega (arith, h, left)))
      off h k (inr above) =
          not_in_left s.left s.top x y log2 _ _ (inr (omega (arith, k, above)))

      by : (a : Bool) → nat_le s.side (s.left + p) ≡ a → (b : Bool) → nat_le s.side (s.top + q) ≡ b →
          cond (a && b) (with_block samples (square_at (s.left + x) (s.top + y) log2) block
          (s.left + p - s.side) (s.top + q - s.side)) None ≡
          cond (a && b) (samples (s.left + p - s.side) (s.top + q - s.side)) None
      by false e b f = refl
      by true e false f = refl
      by true e true f =
          ap (λ t. cond t (Some (slice_index_or block ((s.top + q - s.side - (s.top + y)) * 2 ^ log2 +
          (s.left + p - s.side - (s.left + x))) 0)) (samples (s.left + p - s.side)
          (s.top + q - s.side)))
          (off (leb-true _ _ e) (leb-true _ _ f) before)

-- what is seen behind the block
pub seen_behind : (s : Spot) (around : SamplesAround) (block old new : List ℕ)
    (address next x y log2 : ℕ) (samples : Component) → FitsIn s.side x y log2 →
    FitsInPicture s x y log2 → ComesBetween s.side x y log2 address next →
    IsPut s.side x y log2 block old new → IsSeen s around old address samples →
    IsSeen s around new next
    (with_block samples (square_at (s.left + x) (s.top + y) log2) block)
seen_behind s around block old new address next x y log2 samples fits inside between put seen =
    record { sample = sample } where
      Same : ℕ → ℕ → Type 0
      Same p q =
          look_picture s (with_block samples (square_at (s.left + x) (s.top + y) log2) block) p q ≡
          look_around s around new next p q

      outside : (p q : ℕ) → s.side ≤ p + 1 → p < 3 * s.side → s.side ≤ q + 1 → q < 3 * s.side →
          p < s.side ⊎ q < s.side → Same p q
      outside p q right across below down before =
          picture_outside s samples block x y log2 p q before ∙
          seen.sample p q right across below down ∙
          around_outside s around old new address next p q before

      sample : (p q : ℕ) → s.side ≤ p + 1 → p < 3 * s.side → s.side ≤ q + 1 → q < 3 * s.side → Same p q
      sample p q right across below down = elim (cases_lt p s.side) [
        | inl left ↦ outside p q right across below down (inl left)
        | inr from ↦ elim (cases_lt q s.side) [
          | inl above ↦ outside p q right across below down (inr above)
          | inr under ↦
              let i : ℕ = p - s.side in
              let k : ℕ = q - s.side in
              subst (λ n. Same n q) (omega (arith, from)) (subst (λ n. Same (s.side + i) n)
              (omega (arith, under))
              (behind_inside s around block old new address next x y log2 samples fits inside between
              put seen i k (omega (arith, from, across)) (omega (arith, under, down))))
        ]
      ]

-- ---- the samples that stay

or_none : (a b : Bool) → a || b ≡ false → a ≡ false
or_none true b e = absurd cc
or_none false b e = refl

not_put : (side x y log2 : ℕ) (block old new : List ℕ) (p q : ℕ) →
    IsPut side x y log2 block old new → p < side → q < side →
    is_in (square_at x y log2) p q ≡ false → by_rows side new p q ≡ by_rows side old p q
not_put side x y log2 block old new p q put across down off =
    put.sample p q across down ∙
    ap (λ t. cond t (in_block x y log2 block p q) (by_rows side old p q)) off

pub before_stays : (side x y log2 address next : ℕ) (block old new : List ℕ) (p q : ℕ) →
    ComesBetween side x y log2 address next → IsPut side x y log2 block old new → p < side →
    q < side → comes_before side address p q ≡ true → by_rows side new p q ≡ by_rows side old p q
before_stays side x y log2 address next block old new p q between put across down before =
    not_put side x y log2 block old new p q put across down
    (between.apart p q across down before)

pub behind_stays : (side x y log2 address next : ℕ) (block old new : List ℕ) (p q : ℕ) →
    ComesBetween side x y log2 address next → IsPut side x y log2 block old new → p < side →
    q < side → comes_before side next p q ≡ false → by_rows side new p q ≡ by_rows side old p q
behind_stays side x y log2 address next block old new p q between put across down behind =
    not_put side x y log2 block old new p q put across down
    (or_none (is_in (square_at x y log2) p q) (comes_before side address p q)
    (sym (between.sample p q across down) ∙ behind))
