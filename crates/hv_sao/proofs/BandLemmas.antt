-- Samples of a row with the offsets of their bands, lane by lane (8.7.3.2).
use Rattle.std.proofs.Common.{◌≡◌, ℕ, zero, suc, ◌+◌, ◌-◌, ◌*◌, ◌/◌, ◌%◌, ◌<◌, ◌≤◌, Bool, true, false, cond, nat_lt, List, [], ◌∷◌, ◌++◌, map, replicate, take, drop, length, length-drop, get_or, min, ℤ, pos, negsuc, ◌+ℤ◌, ⊎_elim, refl, sym, ◌∙◌, ap, ap₂, arith, w8, Fits, FitsSigned, of_z, ltb}
use Rattle.std.proofs.lemmas.Bool.{cases_lt, ltb-true, ltb-false}
use Rattle.std.proofs.lemmas.Int.{ints, clamps}
use Rattle.std.proofs.lemmas.List.{get_or-take, get_or-drop, get_or_append_left, get_or-append_right, length-take-le}
use Rattle.std.proofs.lemmas.Simd.{swz_l, SwzOk, SwzOk-from_below, get_or-swz_l_below, Each1-from_get_or, put_chunk_whole}
use borrow.Rule.Slice.PartMut.{put_mid, post_of}
use borrow.Rule.Simd.Lanes.{act1, act2}
use borrow.Table.Row.{s_int}
use mir.Syntax.{wrap_add, wrap_sub, shr, lt, mask, bit_not, unsigned}
use lib.Lanes.{Each1, zip2, sel_l, top, put_chunk}
use Rattle.hv_lemmas.specs.Clipping.{clip1}
use Rattle.hv_plan.specs.declared.offsets.SaoComponent.{SaoComponent}
use Rattle.hv_filter_model.specs.SampleAdaptiveOffset.{bandTable, SaoOffsetVal}
use Rattle.hv_sao.specs.Bands.{raise, lower, band_place, raised_lowered, AreMade}
use Rattle.hv_sao.specs.Rows.{HasPart, band_sample}

-- an offset is what it raises and lowers by
offset_applied : (z : ℤ) (s : ℕ) → s < 256 → raised_lowered s (raise z) (lower z) ≡ clip1 (pos s +ℤ z)
offset_applied (pos n) s below = omega (arith, ints, clamps)
offset_applied (negsuc n) s below = omega (arith, ints, clamps)

-- a sample raised and lowered by what stands at the place of its band
pub band_applied : (component : SaoComponent) (up down : List ℕ) (position s : ℕ) → s < 256 →
    AreMade raise component.offsets up → AreMade lower component.offsets down →
    raised_lowered s (get_or up (band_place position s) 0) (get_or down (band_place position s) 0)
    ≡ clip1 (pos s +ℤ SaoOffsetVal component (bandTable position (s / 8)))
band_applied component up down position s below raises lowers = of_place ((s / 8 + 32 - position) % 32)
  where
    shown : ℕ → ℕ
    shown place = raised_lowered s (get_or up place 0) (get_or down place 0)

    with_offset : ℕ → ℕ
    with_offset category = clip1 (pos s +ℤ SaoOffsetVal component category)

    of_place : (k : ℕ) → shown (min k 4) ≡ with_offset (cond (nat_lt k 4) (k + 1) 0)
    of_place k =
        ⊎_elim
        (λ (within : k < 4).
        let e : cond (nat_lt k 4) (k + 1) 0 ≡ k + 1 = grind arith in
        let next : k + 1 ≡ suc k = omega arith in
        ap shown (omega (arith, within))
        ∙ ap₂ (raised_lowered s) (raises.four k within) (lowers.four k within)
        ∙ offset_applied (get_or component.offsets k (pos 0)) s below
        ∙ ap with_offset (sym (e ∙ next)))
        (λ (behind : 4 ≤ k).
        let e : cond (nat_lt k 4) (k + 1) 0 ≡ 0 = grind arith in
        ap shown (omega (arith, behind))
        ∙ ap₂ (raised_lowered s) raises.none lowers.none
        ∙ offset_applied (pos 0) s below
        ∙ ap with_offset (sym e))
        (cases_lt k 4)

-- ---- lanes

abbrev plus : ℕ → ℕ → ℕ
plus = act2 wrap_add (s_int w8) (s_int w8) (s_int w8)

abbrev minus : ℕ → ℕ → ℕ
minus = act2 wrap_sub (s_int w8) (s_int w8) (s_int w8)

abbrev shifted : ℕ → ℕ → ℕ
shifted = act2 (shr unsigned) (s_int w8) (s_int w8) (s_int w8)

abbrev is_less : ℕ → ℕ → ℕ
is_less = act2 (mask (lt unsigned)) (s_int w8) (s_int w8) (s_int w8)

abbrev inverse : ℕ → ℕ
inverse = act1 bit_not (s_int w8) (s_int w8)

-- the lesser, and the greater, of two lanes
abbrev lesser : List ℕ → List ℕ → List ℕ
lesser xs ys = sel_l (map (top 7) (zip2 is_less xs ys)) xs ys

abbrev greater : List ℕ → List ℕ → List ℕ
greater xs ys = sel_l (map (top 7) (zip2 is_less xs ys)) ys xs

lesser_lane : (x y : ℕ) → cond (top 7 (is_less x y)) x y ≡ min x y
lesser_lane x y = go (ltb x y) refl
  where
    go : (b : Bool) → ltb x y ≡ b → cond (top 7 (cond b 255 0)) x y ≡ min x y
    go true e = omega (arith, ltb-true _ _ e)
    go false e = omega (arith, ltb-false _ _ e)

-- the place of a band, of bytes that wrap
place_lane : (position s : ℕ) → s < 256 → position < 32 →
    shifted (minus s (8 * position)) 3 ≡ (s / 8 + 32 - position) % 32
place_lane position s below least = omega arith

pub places_are : (n position : ℕ) (samples : List ℕ) → position < 32 → length samples ≡ n → Each1 (Fits w8) samples →
    (i : ℕ) → i < n →
    get_or (lesser (zip2 shifted (zip2 minus samples (replicate n (8 * position))) (replicate n 3)) (replicate n 4)) i 0
    ≡ band_place position (get_or samples i 0)
places_are zero position samples least long fits i inside = absurd (omega arith)
places_are (suc n) position [] least long fits i inside = absurd (omega arith)
places_are (suc n) position (s ∷ samples) least long fits zero inside =
    lesser_lane (shifted (minus s (8 * position)) 3) 4 ∙ ap (λ k. min k 4) (place_lane position s fits.0.fits least)
places_are (suc n) position (s ∷ samples) least long fits (suc i) inside =
    places_are n position samples least (omega (arith, long)) fits.1 i (omega (arith, inside))

-- lanes that are raised, and cut to a byte
abbrev raised : List ℕ → List ℕ → List ℕ
raised samples up = zip2 plus samples (lesser up (map inverse samples))

raised_lane : (s u : ℕ) → s < 256 → plus s (cond (top 7 (is_less u (inverse s))) u (inverse s)) ≡ min (s + u) 255
raised_lane s u below = ap (plus s) (lesser_lane u (inverse s)) ∙ omega (arith, below)

raised_are : (samples up : List ℕ) → length samples ≡ length up → Each1 (Fits w8) samples → (i : ℕ) → i < length samples →
    get_or (raised samples up) i 0 ≡ min (get_or samples i 0 + get_or up i 0) 255
raised_are [] up same fits i inside = absurd (omega arith)
raised_are (s ∷ samples) [] same fits i inside = absurd (omega arith)
raised_are (s ∷ samples) (u ∷ up) same fits zero inside = raised_lane s u fits.0.fits
raised_are (s ∷ samples) (u ∷ up) same fits (suc i) inside =
    raised_are samples up (omega (arith, same)) fits.1 i (omega (arith, inside))

length-raised : (samples up : List ℕ) → length samples ≡ length up → length (raised samples up) ≡ length samples
length-raised [] up same = refl
length-raised (s ∷ samples) [] same = absurd (omega arith)
length-raised (s ∷ samples) (u ∷ up) same = ap suc (length-raised samples up (omega (arith, same)))

-- lanes that are lowered, and cut to a byte
abbrev lowered : List ℕ → List ℕ → List ℕ
lowered samples down = zip2 minus (greater samples down) down

lowered_lane : (s d : ℕ) → s < 256 → d < 256 → minus (cond (top 7 (is_less s d)) d s) d ≡ s - d
lowered_lane s d below small = go (ltb s d) refl
  where
    go : (b : Bool) → ltb s d ≡ b → minus (cond (top 7 (cond b 255 0)) d s) d ≡ s - d
    go true e = omega (arith, ltb-true _ _ e, small)
    go false e = omega (arith, ltb-false _ _ e, below)

lowered_are : (samples down : List ℕ) → length samples ≡ length down → Each1 (Fits w8) down → (i : ℕ) → i < length samples →
    get_or samples i 0 < 256 → get_or (lowered samples down) i 0 ≡ get_or samples i 0 - get_or down i 0
lowered_are [] down same fits i inside below = absurd (omega arith)
lowered_are (s ∷ samples) [] same fits i inside below = absurd (omega arith)
lowered_are (s ∷ samples) (d ∷ down) same fits zero inside below = lowered_lane s d below fits.0.fits
lowered_are (s ∷ samples) (d ∷ down) same fits (suc i) inside below =
    lowered_are samples down (omega (arith, same)) fits.1 i (omega (arith, inside)) below

length-lowered : (samples down : List ℕ) → length samples ≡ length down → length (lowered samples down) ≡ length samples
length-lowered [] down same = refl
length-lowered (s ∷ samples) [] same = absurd (omega arith)
length-lowered (s ∷ samples) (d ∷ down) same = ap suc (length-lowered samples down (omega (arith, same)))

pub raised_lowered_are : (samples up down : List ℕ) → length samples ≡ 16 → length up ≡ 16 → length down ≡ 16 →
    Each1 (Fits w8) samples → Each1 (Fits w8) down → (i : ℕ) → i < 16 →
    get_or (lowered (raised samples up) down) i 0 ≡ raised_lowered (get_or samples i 0) (get_or up i 0) (get_or down i 0)
raised_lowered_are samples up down l m n fits small i inside =
    let e = raised_are samples up (l ∙ sym m) fits i (omega (arith, l, inside)) in
    let long : length (raised samples up) ≡ 16 = length-raised samples up (l ∙ sym m) ∙ l in
    lowered_are (raised samples up) down (long ∙ sym n) small i (omega (arith, long, inside)) (omega (arith, e))
    ∙ ap (λ v. v - get_or down i 0) e

pub length-raised_lowered : (samples up down : List ℕ) → length samples ≡ 16 → length up ≡ 16 → length down ≡ 16 →
    length (lowered (raised samples up) down) ≡ 16
length-raised_lowered samples up down l m n =
    let long : length (raised samples up) ≡ 16 = length-raised samples up (l ∙ sym m) ∙ l in
    length-lowered (raised samples up) down (long ∙ sym n) ∙ long

-- sixteen samples of a row, from what their lanes hold
pub sixteen_shown : (component : SaoComponent) (at position : ℕ) (up down samples sixteen places ups downs lanes : List ℕ) →
    AreMade raise component.offsets up → AreMade lower component.offsets down → ((k : ℕ) → get_or samples k 0 < 256) →
    ((i : ℕ) → i < 16 → get_or sixteen i 0 ≡ get_or samples (at + i) 0) →
    ((i : ℕ) → i < 16 → get_or places i 0 ≡ band_place position (get_or sixteen i 0)) →
    ((i : ℕ) → i < 16 → get_or ups i 0 ≡ get_or up (get_or places i 0) 0) →
    ((i : ℕ) → i < 16 → get_or downs i 0 ≡ get_or down (get_or places i 0) 0) →
    ((i : ℕ) → i < 16 → get_or lanes i 0 ≡ raised_lowered (get_or sixteen i 0) (get_or ups i 0) (get_or downs i 0)) →
    (i : ℕ) → i < 16 → get_or lanes i 0 ≡ band_sample component position samples (at + i)
sixteen_shown component at position up down samples sixteen places ups downs lanes raises lowers bytes loaded placed raised lowered put i inside =
    let s : ℕ = get_or samples (at + i) 0 in
    let place : get_or places i 0 ≡ band_place position s = placed i inside ∙ ap (band_place position) (loaded i inside) in
    put i inside
    ∙ ap (λ v. raised_lowered v (get_or ups i 0) (get_or downs i 0)) (loaded i inside)
    ∙ ap₂ (raised_lowered s) (raised i inside ∙ ap (λ k. get_or up k 0) place) (lowered i inside ∙ ap (λ k. get_or down k 0) place)
    ∙ band_applied component up down position s (bytes (at + i)) raises lowers

-- sixteen samples put where all before them are right
pub sixteen_more : (n at : ℕ) (f : ℕ → ℕ) (old new : List ℕ) → at ≤ n →
    ((k : ℕ) → k < n → get_or old k 0 ≡ f k) → HasPart at 16 (λ i. f (at + i)) old new →
    (k : ℕ) → k < at + 16 → get_or new k 0 ≡ f k
sixteen_more n at f old new within right put k below =
    ⊎_elim
    (λ (early : k < at). put.before k early ∙ right k (omega (arith, early, within)))
    (λ (late : at ≤ k).
    let e : at + (k - at) ≡ k = omega (arith, late) in
    ap (λ i. get_or new i 0) (sym e) ∙ put.part (k - at) (omega (arith, late, below)) ∙ ap f e)
    (cases_lt k at)

-- what a byte raises and lowers by
pub byte_raises : (z : ℤ) → FitsSigned w8 z → raise z ≡ cond (nat_lt (of_z w8 z) 128) (of_z w8 z) 0
byte_raises (pos n) fits = let small : n < 128 = omega (arith, ints, fits) in grind (arith, small)
byte_raises (negsuc n) fits = let small : n < 128 = omega (arith, ints, fits) in grind (arith, small)

pub byte_lowers : (z : ℤ) → FitsSigned w8 z → lower z ≡ cond (nat_lt (of_z w8 z) 128) 0 (256 - of_z w8 z)
byte_lowers (pos n) fits = let small : n < 128 = omega (arith, ints, fits) in grind (arith, small)
byte_lowers (negsuc n) fits = let small : n < 128 = omega (arith, ints, fits) in grind (arith, small)

-- a byte below 128, else 0; and what lacks of 256 where it isn't
pub raise_lane : (x : ℕ) → cond (top 7 (is_less x 128)) x 0 ≡ cond (nat_lt x 128) x 0
raise_lane x = go (ltb x 128) refl
  where
    go : (b : Bool) → ltb x 128 ≡ b → cond (top 7 (cond b 255 0)) x 0 ≡ cond (nat_lt x 128) x 0
    go true e = grind (arith, ltb-true _ _ e)
    go false e = grind (arith, ltb-false _ _ e)

pub lower_lane : (x : ℕ) → x < 256 → minus 0 (cond (top 7 (is_less x 128)) 0 x) ≡ cond (nat_lt x 128) 0 (256 - x)
lower_lane x below = go (ltb x 128) refl
  where
    go : (b : Bool) → ltb x 128 ≡ b → minus 0 (cond (top 7 (cond b 255 0)) 0 x) ≡ cond (nat_lt x 128) 0 (256 - x)
    go true e = grind (arith, ltb-true _ _ e)
    go false e =
        let high : 128 ≤ x = ltb-false _ _ e in
        let same : cond (nat_lt x 128) 0 (256 - x) ≡ 256 - x = grind arith in
        omega (arith, high, below) ∙ sym same

-- what is made of four offsets
pub made_of : (f : ℤ → ℕ) (offsets : List ℤ) (a b c d : ℕ) (rest : List ℕ) →
    a ≡ f (get_or offsets 0 (pos 0)) → b ≡ f (get_or offsets 1 (pos 0)) →
    c ≡ f (get_or offsets 2 (pos 0)) → d ≡ f (get_or offsets 3 (pos 0)) →
    AreMade f offsets (a ∷ b ∷ c ∷ d ∷ 0 ∷ rest)
made_of f offsets a b c d rest p q r s = record { four = of_place; none = refl }
  where
    of_place : (k : ℕ) → k < 4 → get_or (a ∷ b ∷ c ∷ d ∷ 0 ∷ rest) k 0 ≡ f (get_or offsets k (pos 0))
    of_place zero h = p
    of_place (suc zero) h = q
    of_place (suc (suc zero)) h = r
    of_place (suc (suc (suc zero))) h = s
    of_place (suc (suc (suc (suc k)))) h = absurd (omega arith)

-- places below 16 may be looked up in sixteen lanes, and give what stands there
pub may_be_taken : (places : List ℕ) → length places ≡ 16 → ((i : ℕ) → i < 16 → get_or places i 0 < 16) →
    SwzOk w8 16 16 0 places
may_be_taken places long small =
    SwzOk-from_below w8 16 1 16 0 places refl (omega (arith, long))
    (Each1-from_get_or (λ j. j < 16) places 0 (λ i inside. small i (omega (arith, long, inside))))

pub are_taken : (made places : List ℕ) → length places ≡ 16 → ((i : ℕ) → i < 16 → get_or places i 0 < 16) →
    (i : ℕ) → i < 16 → get_or (swz_l w8 16 made 0 places) i 0 ≡ get_or made (get_or places i 0) 0
are_taken made places long small i inside =
    get_or-swz_l_below w8 16 made 0 places i (omega (arith, long, inside)) (small i inside)
    ∙ ap (λ k. get_or made k 0) (omega (arith, inside))

-- sixteen lanes written into a slice
pub sixteen_put : (at : ℕ) (lanes old : List ℕ) (f : ℕ → ℕ) → at + 16 ≤ length old → length lanes ≡ 16 →
    ((i : ℕ) → i < 16 → get_or lanes i 0 ≡ f i) →
    HasPart at 16 f old (put_mid at (at + 16 - at) old (put_chunk 0 (take (at + 16 - at) (drop at old)) lanes))
sixteen_put at lanes old f room long right = record {
  part = λ i below.
      get_or-append_right (take at old) (written ++ rest) at (at + i) 0 front (omega arith)
      ∙ ap (λ k. get_or (written ++ rest) k 0) (omega arith)
      ∙ get_or_append_left written rest 0 i (omega (arith, size, below))
      ∙ ap (λ xs. get_or xs i 0) whole
      ∙ right i below;
  before = λ k below.
      get_or_append_left (take at old) (written ++ rest) 0 k (omega (arith, front, below))
      ∙ get_or-take at old k 0 below;
  behind = λ k above.
      get_or-append_right (take at old) (written ++ rest) at k 0 front (omega (arith, above))
      ∙ get_or-append_right written rest 16 (k - at) 0 size (omega (arith, above))
      ∙ get_or-drop (at + 16 - at) (drop at old) (k - at - 16) 0
      ∙ get_or-drop at old (at + 16 - at + (k - at - 16)) 0
      ∙ ap (λ j. get_or old j 0) (omega (arith, above));
}
  where
    written : List ℕ
    written = put_chunk 0 (take (at + 16 - at) (drop at old)) lanes

    rest : List ℕ
    rest = post_of at (at + 16 - at) old

    front : length (take at old) ≡ at
    front = length-take-le at old (omega (arith, room))

    part : length (take (at + 16 - at) (drop at old)) ≡ 16
    part = length-take-le (at + 16 - at) (drop at old) (omega (arith, length-drop at old, room)) ∙ omega arith

    whole : written ≡ lanes
    whole = put_chunk_whole (take (at + 16 - at) (drop at old)) lanes (part ∙ sym long)

    size : length written ≡ 16
    size = ap length whole ∙ long

-- sixteen samples of a row, as lanes
pub sixteen_loaded : (at : ℕ) (samples : List ℕ) (i : ℕ) → i < 16 →
    get_or (take 16 (take (at + 16 - at) (drop at samples))) i 0 ≡ get_or samples (at + i) 0
sixteen_loaded at samples i inside =
    get_or-take 16 (take (at + 16 - at) (drop at samples)) i 0 inside
    ∙ get_or-take (at + 16 - at) (drop at samples) i 0 (omega (arith, inside))
    ∙ get_or-drop at samples i 0
