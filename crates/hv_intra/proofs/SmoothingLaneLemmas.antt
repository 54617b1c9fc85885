-- Filtered neighbours, lane by lane.
use Rattle.std.proofs.Common.{◌≡◌, ℕ, zero, suc, ◌+◌, ◌-◌, ◌*◌, ◌/◌, ◌<◌, ◌≤◌, List, [], ◌∷◌, length, take, drop, map, replicate, get_or, refl, sym, ap, ap₂, ◌∙◌, arith, inl, inr, set, length-set, get_or-set_same, get_or-set_other, Fits, w8}
use Rattle.std.specs.Prelude.{◌⊎◌}
use Rattle.std.proofs.lemmas.Bool.{cases_lt}
use borrow.Rule.Slice.PartMut.{put_mid}
use Rattle.hv_sample_model.specs.IntraPrediction.{smoothed}
use Rattle.hv_intra.proofs.SmoothedLineLemmas.{smoothed_from_places}
use Rattle.std.proofs.lemmas.Simd.{put_chunk_whole}
use Rattle.std.proofs.lemmas.List.{length-take-le, length-drop}
use lib.Lanes.{Each1, zip2, put_chunk}
use lib.Seq.{take_all}
use mir.Syntax.{w16, cast, unsigned}
use borrow.Rule.Simd.Lanes.{Asks1}
use borrow.Table.Row.{s_int}
use Rattle.hv_intra.specs.Blocks.{IsRow}
use Rattle.hv_intra.specs.Lines.{weighted, weighted_at, all_weighted}
use Rattle.hv_intra.proofs.LaneLemmas.{plus, down, wide, narrow}
use Rattle.hv_intra.proofs.RowLemmas.{in_part, length-parted, before_part, inside_part}

abbrev pub means : ℕ → List ℕ → List ℕ → List ℕ → List ℕ
means n us bs cs =
    zip2 down (zip2 plus (zip2 plus (zip2 down (zip2 plus (map wide us) (map wide cs)) (replicate n 1)) (map wide bs)) (replicate n 1)) (replicate n 1)

mean_is : (a b c : ℕ) → a < 256 → b < 256 → c < 256 →
    narrow (down (plus (plus (down (plus (wide a) (wide c)) 1) (wide b)) 1) 1) ≡ weighted a b c
mean_is a b c h k l = omega arith

pub means_are : (n : ℕ) (us bs cs : List ℕ) → length us ≡ n → length bs ≡ n → length cs ≡ n →
    Each1 (Fits w8) us → Each1 (Fits w8) bs → Each1 (Fits w8) cs →
    map narrow (means n us bs cs) ≡ all_weighted us bs cs
means_are zero [] bs cs l m o f g h = refl
means_are zero (a ∷ us) bs cs l m o f g h = absurd (omega arith)
means_are (suc n) [] bs cs l m o f g h = absurd (omega arith)
means_are (suc n) (a ∷ us) [] cs l m o f g h = absurd (omega arith)
means_are (suc n) (a ∷ us) (b ∷ bs) [] l m o f g h = absurd (omega arith)
means_are (suc n) (a ∷ us) (b ∷ bs) (c ∷ cs) l m o f g h =
    ap₂ (λ (x : ℕ) (xs : List ℕ). x ∷ xs) (mean_is a b c f.0.fits g.0.fits h.0.fits)
    (means_are n us bs cs (omega arith) (omega arith) (omega arith) f.1 g.1 h.1)

mean_fits : (a b c : ℕ) → a < 256 → b < 256 → c < 256 →
    Asks1 (cast unsigned unsigned w8) (s_int w16) (down (plus (plus (down (plus (wide a) (wide c)) 1) (wide b)) 1) 1)
mean_fits a b c h k l = omega arith

pub means_fit : (n : ℕ) (us bs cs : List ℕ) → Each1 (Fits w8) us → Each1 (Fits w8) bs → Each1 (Fits w8) cs →
    Each1 (Asks1 (cast unsigned unsigned w8) (s_int w16)) (means n us bs cs)
means_fit zero [] bs cs f g h = tt
means_fit zero (a ∷ us) bs [] f g h = tt
means_fit zero (a ∷ us) [] (c ∷ cs) f g h = tt
means_fit zero (a ∷ us) (b ∷ bs) (c ∷ cs) f g h = tt
means_fit (suc n) [] bs cs f g h = tt
means_fit (suc n) (a ∷ us) bs [] f g h = tt
means_fit (suc n) (a ∷ us) [] (c ∷ cs) f g h = tt
means_fit (suc n) (a ∷ us) (b ∷ bs) (c ∷ cs) f g h =
    (mean_fits a b c f.0.fits g.0.fits h.0.fits, means_fit n us bs cs f.1 g.1 h.1)

length-weighted : (n : ℕ) (us bs cs : List ℕ) → length us ≡ n → length bs ≡ n → length cs ≡ n → length (all_weighted us bs cs) ≡ n
length-weighted zero [] bs cs l m o = refl
length-weighted zero (a ∷ us) bs cs l m o = absurd (omega arith)
length-weighted (suc n) [] bs cs l m o = absurd (omega arith)
length-weighted (suc n) (a ∷ us) [] cs l m o = absurd (omega arith)
length-weighted (suc n) (a ∷ us) (b ∷ bs) [] l m o = absurd (omega arith)
length-weighted (suc n) (a ∷ us) (b ∷ bs) (c ∷ cs) l m o =
    ap suc (length-weighted n us bs cs (omega arith) (omega arith) (omega arith))

weighted_place : (us bs cs : List ℕ) (k : ℕ) → k < length us → k < length bs → k < length cs →
    get_or (all_weighted us bs cs) k 0 ≡ weighted (get_or us k 0) (get_or bs k 0) (get_or cs k 0)
weighted_place [] bs cs k l m o = absurd (omega arith)
weighted_place (a ∷ us) [] cs k l m o = absurd (omega arith)
weighted_place (a ∷ us) (b ∷ bs) [] k l m o = absurd (omega arith)
weighted_place (a ∷ us) (b ∷ bs) (c ∷ cs) zero l m o = refl
weighted_place (a ∷ us) (b ∷ bs) (c ∷ cs) (suc k) l m o = weighted_place us bs cs k (omega arith) (omega arith) (omega arith)

part_of : (n a e : ℕ) (line : List ℕ) → e ≡ a + n → e ≤ length line → length (take (e - a) (drop a line)) ≡ n
part_of n a e line is inside =
    length-take-le (e - a) (drop a line) (omega (arith, length-drop a line)) ∙ omega (arith, is)

-- what sixteen lanes hold
pub smoothed_lanes : (from : ℕ) (line out us bs cs lanes : List ℕ) → 1 ≤ from → from + 17 ≤ length line → length out ≡ 16 →
    us ≡ take (from + 15 - (from - 1)) (drop (from - 1) line) →
    bs ≡ take (from + 16 - from) (drop from line) →
    cs ≡ take (from + 17 - (from + 1)) (drop (from + 1) line) →
    lanes ≡ all_weighted (take 16 us) (take 16 bs) (take 16 cs) →
    IsRow 16 (λ k. weighted_at line (from + k)) (put_chunk 0 out lanes)
smoothed_lanes from line out us bs cs lanes some inside room p q r e = λ k below.
    let la : length us ≡ 16 = ap length p ∙ part_of 16 (from - 1) (from + 15) line (omega arith) (omega arith) in
    let lb : length bs ≡ 16 = ap length q ∙ part_of 16 from (from + 16) line (omega arith) (omega arith) in
    let lc : length cs ≡ 16 = ap length r ∙ part_of 16 (from + 1) (from + 17) line (omega arith) (omega arith) in
    let all : lanes ≡ all_weighted us bs cs =
    e ∙ ap (λ v. all_weighted v (take 16 bs) (take 16 cs)) (take_all 16 us (omega (arith, la))) ∙
    ap₂ (λ v w. all_weighted us v w) (take_all 16 bs (omega (arith, lb))) (take_all 16 cs (omega (arith, lc))) in
    let a : get_or us k 0 ≡ get_or line (from + k - 1) 0 =
    ap (λ v. get_or v k 0) p ∙ in_part (from - 1) (from + 15 - (from - 1)) k line (omega (arith, below, some)) ∙ ap (λ i. get_or line i 0) (omega (arith, some)) in
    let b : get_or bs k 0 ≡ get_or line (from + k) 0 =
    ap (λ v. get_or v k 0) q ∙ in_part from (from + 16 - from) k line (omega (arith, below)) in
    let c : get_or cs k 0 ≡ get_or line (from + k + 1) 0 =
    ap (λ v. get_or v k 0) r ∙ in_part (from + 1) (from + 17 - (from + 1)) k line (omega (arith, below)) ∙ ap (λ i. get_or line i 0) (omega arith) in
    ap (λ v. get_or v k 0) (ap (put_chunk 0 out) all ∙ put_chunk_whole out (all_weighted us bs cs) (room ∙ sym (length-weighted 16 us bs cs la lb lc))) ∙
    weighted_place us bs cs k (omega (arith, la, below)) (omega (arith, lb, below)) (omega (arith, lc, below)) ∙
    ap₂ (λ x y. weighted x y (get_or cs k 0)) a b ∙ ap (weighted (get_or line (from + k - 1) 0) (get_or line (from + k) 0)) c

-- all of a line, from the parts that were written
pub smoothed_parts : (k last m : ℕ) (line out part : List ℕ) → 33 ≤ length line →
    16 * (length line / 16) + 1 ≡ length line → length out ≡ length line → last + 1 ≡ length line →
    m ≡ 16 → last / 16 - 1 ≤ k → length part ≡ 16 →
    ((i : ℕ) → 1 ≤ i → i < 16 * k + 1 → get_or out i 0 ≡ weighted_at line i) →
    IsRow 16 (λ i. weighted_at line (last - 16 + i)) part →
    set (set (put_mid (last - 16) m out part) 0 (get_or line 0 0)) last (get_or line last 0) ≡ smoothed line
smoothed_parts k last m line out part some sixteens same end em enough long old new =
    smoothed_from_places line whole (omega (arith, some)) (length-set _ _ _ ∙ length-set _ _ _ ∙ all ∙ same)
    (get_or-set_other (set parted 0 (get_or line 0 0)) last 0 (get_or line last 0) 0 (λ e. absurd (omega (arith, e, some, end))) ∙
    get_or-set_same parted 0 (get_or line 0 0) 0 (omega (arith, all, same, some)))
    (λ i least most.
    get_or-set_other (set parted 0 (get_or line 0 0)) last i (get_or line last 0) 0 (λ e. absurd (omega (arith, e, most, end))) ∙
    get_or-set_other parted 0 i (get_or line 0 0) 0 (λ e. absurd (omega (arith, e, least))) ∙
    between i least (omega (arith, most, end)) (cases_lt i (last - 16)))
    (ap (λ j. get_or whole j 0) (omega (arith, end)) ∙
    get_or-set_same (set parted 0 (get_or line 0 0)) last (get_or line last 0) 0 (omega (arith, length-set parted 0 (get_or line 0 0), all, same, end)) ∙
    ap (λ j. get_or line j 0) (omega (arith, end)))
  where
    parted : List ℕ
    parted = put_mid (last - 16) m out part

    whole : List ℕ
    whole = set (set parted 0 (get_or line 0 0)) last (get_or line last 0)

    all : length parted ≡ length out
    all = length-parted (last - 16) m out part (omega (arith, em, same, end, some)) (omega (arith, em, long))

    between : (i : ℕ) → 1 ≤ i → i < last → (i < last - 16) ⊎ (last - 16 ≤ i) → get_or parted i 0 ≡ weighted_at line i
    between i least most (inl less) =
        before_part (last - 16) m i out part (omega (arith, same, end)) less ∙
        old i least (omega (arith, less, enough, sixteens, end))
    between i least most (inr more) =
        let e : last - 16 + (i - (last - 16)) ≡ i = omega (arith, more) in
        ap (λ j. get_or parted j 0) (sym e) ∙
        inside_part (last - 16) m (i - (last - 16)) out part (omega (arith, same, end)) (omega (arith, long, most, more)) ∙
        new (i - (last - 16)) (omega (arith, most, more)) ∙ ap (weighted_at line) e
