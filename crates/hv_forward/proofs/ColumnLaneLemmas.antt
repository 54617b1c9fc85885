-- Sums over columns, four side by side, from their lanes.
use Rattle.std.proofs.Common.{List, ap, ap₂, arith, drop, length, map, pos, subst, sym, take, ℕ, ℤ, ◌%◌, ◌*ℤ◌, ◌*◌, ◌++◌, ◌+ℤ◌, ◌+◌, ◌-◌, ◌/◌, ◌<◌, ◌∙◌, ◌≡◌, ◌≤◌}
use Rattle.std.proofs.lemmas.List.{get_or-append_right, get_or-map, get_or-take, get_or_past, length-map, length-take, length-take-le}
use lib.ListN.{get_or}
use mir.Syntax.{w16, w32}
use mir.Val.{SFits, of_z}
use Rattle.hv_lanes.specs.Lanes.{FourLanes, Numbers, at, in_pairs}
use Rattle.hv_lanes.proofs.LaneSumLemmas.{end, lane, lane_is, numbers}
use Rattle.std.specs.Int.{int_wrap}
use Rattle.hv_forward.specs.Forward.{IsLight, column_part, columns_mean, entry_mean, entry_quad, entry_sum}
use Rattle.hv_lanes.specs.Passes.{AreWithin, HasFirst, table_row}
use Rattle.hv_lanes.proofs.PartLemmas.{HasFirst-put, at_part}
use Rattle.std.proofs.lemmas.Int.{ints}
use Rattle.std.proofs.lemmas.Bool.{cases_lt}
use mathlib.Core.Logic.{⊎_elim}
use Rattle.std.proofs.Math.IntN.{*ℤ_comm}
use Rattle.hv_sample_model.specs.Blocks.{sum_of}
use Rattle.hv_lanes.proofs.LaneStepLemmas.{passed, regroup}
use Rattle.hv_lanes.proofs.FourLaneLemmas.{kept_four, kept_lanes, same_lanes}
use Rattle.hv_lanes.proofs.SumLemmas.{append_sum, sum_of_same}
use Rattle.std.specs.Int.RustNames.{unsigned_abs}
use Rattle.std.proofs.Math.Nat.{mul-le-mul_right}
use Rattle.hv_lanes.proofs.WeightLemmas.{size_of_products}
use Rattle.hv_lanes.proofs.NumberLemmas.{small_number}
use Rattle.hv_sample_model.specs.Quantisation.{rounded}
use Rattle.hv_lanes.proofs.FourLaneLemmas.{exact}
use borrow.Rule.Slice.PartMut.{put_mid}
use Rattle.std.proofs.lemmas.Nat.{div-mul-add, mod-mul-add}

behind_at : (k : ℕ) (xs ys : List ℤ) → length xs ≡ 8 → length ys ≡ 8 → k < 8 → get_or (map (of_z w16) (take 8 xs) ++ map (of_z w16) (take 8 ys)) (8 + k) 0 ≡ of_z w16 (at ys k)
behind_at k xs ys l m below =
    let here : 8 + k - 8 ≡ k = omega arith in
    let long : length (map (of_z w16) (take 8 xs)) ≡ 8 = length-map (take 8 xs) (of_z w16) ∙ length-take-le 8 xs (omega (arith, l)) in
    get_or-append_right (map (of_z w16) (take 8 xs)) (map (of_z w16) (take 8 ys)) 8 (8 + k) 0 long (omega arith) ∙
    ap (λ i. get_or (map (of_z w16) (take 8 ys)) i 0) here ∙ end 8 k ys m below

pub entry_lane : (j : ℕ) (xs zs es : List ℤ) (vs : List ℕ) → j < 4 → length xs ≡ 8 → length zs ≡ 8 → length es ≡ 4 → Numbers xs → Numbers zs → Numbers es
    → (let x = map (of_z w16) (take 8 xs) ++ map (of_z w16) (take 8 zs) in
    let e = map (of_z w16) (take 4 es) ++ vs in
    lane (get_or x (2 * j) 0) (get_or x (2 * j + 1) 0) (get_or x (8 + 2 * j) 0) (get_or x (8 + (2 * j + 1)) 0) (get_or e 0 0) (get_or e 1 0) (get_or e 2 0) (get_or e 3 0)) ≡ int_wrap w32 (entry_quad es xs zs j)
entry_lane j xs zs es vs inside la lb le fa fb fe =
    let rest : List ℕ = map (of_z w16) (take 8 zs) in
    rw (
      numbers 8 (2 * j) xs rest la (omega (arith, inside)),
      numbers 8 (2 * j + 1) xs rest la (omega (arith, inside)),
      behind_at (2 * j) xs zs la lb (omega (arith, inside)),
      behind_at (2 * j + 1) xs zs la lb (omega (arith, inside)),
      numbers 4 0 es vs le (omega arith),
      numbers 4 1 es vs le (omega arith),
      numbers 4 2 es vs le (omega arith),
      numbers 4 3 es vs le (omega arith),
    )
    (lane_is (at xs (2 * j)) (at xs (2 * j + 1)) (at zs (2 * j)) (at zs (2 * j + 1)) (at es 0) (at es 1) (at es 2) (at es 3)
    (fa (2 * j)) (fa (2 * j + 1)) (fb (2 * j)) (fb (2 * j + 1)) (fe 0) (fe 1) (fe 2) (fe 3))

-- eight numbers of a row of pairs, from column 4 i on
abbrev pub eight_from : List ℤ → ℕ → List ℤ
eight_from row i = take (8 * i + 8 - 8 * i) (drop (8 * i) row)

pair_at : (rows : List (List ℤ)) (p i j h : ℕ) → j < 4 → h < 2 → at (eight_from (table_row rows p) i) (2 * j + h) ≡ in_pairs rows (4 * i + j) (2 * p + h)
pair_at rows p i j h inside small =
    let row : List ℤ = table_row rows p in
    let few : 8 * i + 8 - 8 * i ≡ 8 = omega arith in
    ap (λ n. at (take n (drop (8 * i) row)) (2 * j + h)) few ∙ at_part (8 * i) 8 (2 * j + h) row (omega (arith, inside, small)) ∙
    ap₂ (λ a b. at (table_row rows a) b) (half p h small) (place i j p h small)
  where
    half : (p h : ℕ) → h < 2 → p ≡ (2 * p + h) / 2
    half p h small = omega (arith, small)

    place : (i j p h : ℕ) → h < 2 → 8 * i + (2 * j + h) ≡ 2 * (4 * i + j) + (2 * p + h) % 2
    place i j p h small = omega (arith, small)

pub eight_numbers : (rows : List (List ℤ)) (p i : ℕ) → ((j h : ℕ) → j < 4 → h < 2 → SFits w16 (in_pairs rows (4 * i + j) (2 * p + h))) → Numbers (eight_from (table_row rows p) i)
eight_numbers rows p i fits k =
    ⊎_elim
    (λ (below : k < 8).
    let place : 2 * (k / 2) + k % 2 ≡ k = omega arith in
    subst (λ n. SFits w16 (at (eight_from (table_row rows p) i) n)) place
    (subst (SFits w16) (sym (pair_at rows p i (k / 2) (k % 2) (omega (arith, below)) (omega arith))) (fits (k / 2) (k % 2) (omega (arith, below)) (omega arith))))
    (λ (past : 8 ≤ k).
    let few : length (eight_from (table_row rows p) i) ≤ k = omega (arith, past, length-take (8 * i + 8 - 8 * i) (drop (8 * i) (table_row rows p))) in
    subst (SFits w16) (sym (get_or_past (eight_from (table_row rows p) i) k (pos 0) few)) (record { sfits = omega (arith, ints) }))
    (cases_lt k 8)

pub next_row : (rows : List (List ℤ)) (p i j h : ℕ) → SFits w16 (in_pairs rows (4 * i + j) (2 * p + (2 + h))) → SFits w16 (in_pairs rows (4 * i + j) (2 * (p + 1) + h))
next_row rows p i j h f =
    let place : 2 * p + (2 + h) ≡ 2 * (p + 1) + h = omega arith in
    subst (λ r. SFits w16 (in_pairs rows (4 * i + j) r)) place f

quad_is : (es : List ℤ) (rows : List (List ℤ)) (p i j : ℕ) → j < 4 → entry_quad es (eight_from (table_row rows p) i) (eight_from (table_row rows (p + 1)) i) j ≡ column_part 4 es rows i (2 * p) j
unfolding sum_of
quad_is es rows p i j inside =
    let a : List ℤ = eight_from (table_row rows p) i in
    let b : List ℤ = eight_from (table_row rows (p + 1)) i in
    let f : ℕ → ℤ = λ r. at es r *ℤ in_pairs rows (4 * i + j) (2 * p + r) in
    let turn = λ (x y e : ℤ) (q : x ≡ y). ap (λ z. z *ℤ e) q ∙ *ℤ_comm y e in
    let first : 2 * j ≡ 2 * j + 0 = omega arith in
    let third : 2 * (p + 1) + 0 ≡ 2 * p + 2 = omega arith in
    let fourth : 2 * (p + 1) + 1 ≡ 2 * p + 3 = omega arith in
    let t0 : at a (2 * j) *ℤ at es 0 ≡ f 0 = turn _ (in_pairs rows (4 * i + j) (2 * p + 0)) _ (ap (at a) first ∙ pair_at rows p i j 0 inside (omega arith)) in
    let t1 : at a (2 * j + 1) *ℤ at es 1 ≡ f 1 = turn _ (in_pairs rows (4 * i + j) (2 * p + 1)) _ (pair_at rows p i j 1 inside (omega arith)) in
    let t2 : at b (2 * j) *ℤ at es 2 ≡ f 2 = turn _ (in_pairs rows (4 * i + j) (2 * p + 2)) _ (ap (at b) first ∙ pair_at rows (p + 1) i j 0 inside (omega arith) ∙ ap (in_pairs rows (4 * i + j)) third) in
    let t3 : at b (2 * j + 1) *ℤ at es 3 ≡ f 3 = turn _ (in_pairs rows (4 * i + j) (2 * p + 3)) _ (pair_at rows (p + 1) i j 1 inside (omega arith) ∙ ap (in_pairs rows (4 * i + j)) fourth) in
    ap₂ (λ a b. a +ℤ b) (ap₂ (λ a b. a +ℤ b) t0 t1) (ap₂ (λ a b. a +ℤ b) t2 t3) ∙ regroup (f 0) (f 1) (f 2) (f 3)

pub four_sums : (es : List ℤ) (rows : List (List ℤ)) (p i : ℕ) (v : List ℤ) → FourLanes (entry_quad es (eight_from (table_row rows p) i) (eight_from (table_row rows (p + 1)) i)) v → FourLanes (column_part 4 es rows i (2 * p)) (passed w32 v)
four_sums es rows p i v h =
    kept_four (column_part 4 es rows i (2 * p)) v
    (same_lanes (entry_quad es (eight_from (table_row rows p) i) (eight_from (table_row rows (p + 1)) i)) (column_part 4 es rows i (2 * p)) v (λ j below. quad_is es rows p i j below) h)

part_sum : (n m i first second j : ℕ) (es : List ℤ) (rows : List (List ℤ)) → second ≡ first + n → column_part n (take n es) rows i first j +ℤ column_part m (take m (drop n es)) rows i second j ≡ column_part (n + m) es rows i first j
part_sum n m i first second j es rows e =
    let h : ℕ → ℤ = λ r. at es r *ℤ in_pairs rows (4 * i + j) (first + r) in
    ap₂ (λ a b. a +ℤ b)
    (sum_of_same n (λ r. at (take n es) r *ℤ in_pairs rows (4 * i + j) (first + r)) h (λ r below. ap (λ z. z *ℤ in_pairs rows (4 * i + j) (first + r)) (get_or-take n es r (pos 0) below)))
    (sum_of_same m (λ r. at (take m (drop n es)) r *ℤ in_pairs rows (4 * i + j) (second + r)) (λ r. h (n + r))
    (λ r below. ap₂ (λ a b. a *ℤ in_pairs rows (4 * i + j) b) (at_part n m r es below) (omega (arith, e)))) ∙
    sym (append_sum n m h)

pub more_sums : (n m p q i : ℕ) (es : List ℤ) (rows : List (List ℤ)) (a b r : List ℤ) → 2 * q ≡ 2 * p + n → FourLanes (column_part n (take n es) rows i (2 * p)) a → FourLanes (column_part m (take m (drop n es)) rows i (2 * q)) b
    → ((f g : ℕ → ℤ) → FourLanes f (passed w32 a) → FourLanes g (passed w32 b) → FourLanes (λ j. f j +ℤ g j) r) → FourLanes (column_part (n + m) es rows i (2 * p)) (passed w32 r)
more_sums n m p q i es rows a b r e h k s =
    let f : ℕ → ℤ = column_part n (take n es) rows i (2 * p) in
    let g : ℕ → ℤ = column_part m (take m (drop n es)) rows i (2 * q) in
    kept_four (column_part (n + m) es rows i (2 * p)) r
    (same_lanes (λ j. f j +ℤ g j) (column_part (n + m) es rows i (2 * p)) r (λ j below. part_sum n m i (2 * p) (2 * q) j es rows e)
    (s f g (kept_four f a h) (kept_four g b k)))

pub more_bits : (n few p q i : ℕ) (rows : List (List ℤ)) (c : ℕ) → 2 * q ≡ 2 * p + c → c + few ≤ n → ((j r : ℕ) → j < 4 → r < n → SFits w16 (in_pairs rows (4 * i + j) (2 * p + r))) → (j r : ℕ) → j < 4 → r < few → SFits w16 (in_pairs rows (4 * i + j) (2 * q + r))
more_bits n few p q i rows c e fit h j r inside below =
    let place : 2 * p + (c + r) ≡ 2 * q + r = omega (arith, e) in
    subst (λ k. SFits w16 (in_pairs rows (4 * i + j) k)) place (h j (c + r) inside (omega (arith, fit, below)))

-- how great sums over columns are
pub entry_small : (n u : ℕ) (es : List ℤ) (rows : List (List ℤ)) → n ≤ 32 → IsLight n es → ((r : ℕ) → r < n → SFits w16 (in_pairs rows u r)) → unsigned_abs (entry_sum n es rows u) ≤ 1073741824
entry_small n u es rows few light fits =
    let heavy = size_of_products n 32768 (at es) (in_pairs rows u) (λ r below. small_number (in_pairs rows u r) (fits r below)) in
    let weight = mul-le-mul_right 32768 light in
    omega (arith, heavy, weight, few)

part_from_0 : (n i j : ℕ) (es : List ℤ) (rows : List (List ℤ)) → column_part n es rows i 0 j ≡ entry_sum n es rows (4 * i + j)
part_from_0 n i j es rows =
    sum_of_same n (λ r. at es r *ℤ in_pairs rows (4 * i + j) (0 + r)) (λ r. at es r *ℤ in_pairs rows (4 * i + j) r)
    (λ r below.
    let here : 0 + r ≡ r = omega arith in
    ap (λ k. at es r *ℤ in_pairs rows (4 * i + j) k) here)

pub sums_from_0 : (n i : ℕ) (es : List ℤ) (rows : List (List ℤ)) (v : List ℤ) → FourLanes (column_part n es rows i 0) v → FourLanes (λ j. entry_sum n es rows (4 * i + j)) v
sums_from_0 n i es rows v h = same_lanes (column_part n es rows i 0) (λ j. entry_sum n es rows (4 * i + j)) v (λ j below. part_from_0 n i j es rows) h

-- the same from the first column on
pub first_four : (n : ℕ) (es : List ℤ) (rows : List (List ℤ)) (v : List ℤ) → FourLanes (column_part n es rows 0 0) v → FourLanes (entry_sum n es rows) v
first_four n es rows v h =
    same_lanes (λ j. entry_sum n es rows (4 * 0 + j)) (entry_sum n es rows) v (λ j below. ap (entry_sum n es rows) (omega arith)) (sums_from_0 n 0 es rows v h)

pub four_means : (f : ℕ → ℤ) (s : ℕ) (v out : List ℤ) → ((j : ℕ) → j < 4 → unsigned_abs (f j) ≤ 1073741824) → FourLanes f v → out ≡ map (λ z. rounded z s) (passed w32 v) → (j : ℕ) → j < 4 → at out j ≡ rounded (f j) s
four_means f s v out small h e j below =
    ap (λ o. at o j) (e ∙ ap (map (λ z. rounded z s)) (kept_lanes f v h)) ∙
    get_or-map (λ z. rounded z s) v j (pos 0) (pos 0) (omega (arith, below, h.count)) ∙
    ap (λ z. rounded z s) (exact f v small h j below)

-- four more columns, and one more frequency
pub four_more : (n i s k : ℕ) (es : List ℤ) (rows : List (List ℤ)) (out new : List ℤ) → 4 * i ≤ length out → length new ≡ 4 → ((j : ℕ) → j < 4 → at new j ≡ entry_mean n es rows s (4 * i + j)) → HasFirst (4 * i) (entry_mean n es rows s) out → HasFirst (4 * i + 4) (entry_mean n es rows s) (put_mid (4 * i) k out new)
four_more n i s k es rows out new room long each old = HasFirst-put (4 * i) 4 k (entry_mean n es rows s) out new room long old each

pub frequency_more : (n v s k : ℕ) (table rows : List (List ℤ)) (out new : List ℤ) → v * n ≤ length out → length new ≡ n → HasFirst n (entry_mean n (table_row table v) rows s) new → HasFirst (v * n) (columns_mean n table rows s) out → HasFirst (v * n + n) (columns_mean n table rows s) (put_mid (v * n) k out new)
frequency_more n v s k table rows out new room long row old =
    HasFirst-put (v * n) n k (columns_mean n table rows s) out new room long old
    (λ m below. row m below ∙ sym (ap₂ (λ v u. entry_mean n (table_row table v) rows s u) (div-mul-add v n m below) (mod-mul-add v n m below)))

pub part_within : (n a m most : ℕ) (xs : List ℤ) → AreWithin n most xs → a + m ≤ n → AreWithin m most (take m (drop a xs))
part_within n a m most xs h inside k below = rw (at_part a m k xs below) (h (a + k) (omega (arith, inside, below)))
