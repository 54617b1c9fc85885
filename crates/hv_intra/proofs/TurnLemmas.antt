-- Steps by which columns become rows, and what their lanes hold.
use Rattle.std.proofs.Common.{◌≡◌, ℕ, ◌+◌, ◌-◌, ◌*◌, ◌/◌, ◌%◌, ◌<◌, ◌≤◌, List, [], ◌∷◌, ◌++◌, length, take, drop, map, get_or, cond, eqb, nat_lt, refl, sym, ap, ap₂, ◌∙◌, arith, inl, inr}
use Rattle.std.specs.Prelude.{◌⊎◌}
use Rattle.std.proofs.lemmas.Bool.{cases_lt, eqb-true, lt-ltb}
use Rattle.std.proofs.lemmas.Bool.Decides.{nat_tests}
use Rattle.std.proofs.lemmas.Simd.{put_chunk_whole}
use Rattle.std.proofs.lemmas.List.{length-map, get_or-map, get_or_append_left, get_or-append_right}
use lib.Lanes.{put_chunk}
use lib.Seq.{take_all}
use Rattle.hv_lemmas.proofs.ComputedLemmas.{holds_below}
use Rattle.hv_lemmas.proofs.ComparisonLemmas.{lt_not_below}
use Rattle.hv_intra.specs.Blocks.{IsRow, HasRows}
use Rattle.hv_intra.specs.Turns.{lowest_to_top, woven, in_turn, of_tiles}
use borrow.Rule.Slice.PartMut.{put_mid}
use Rattle.hv_intra.proofs.RowLemmas.{row_part, row_parts, in_part, length-part}

-- ---- a vector that was shuffled, and written
abbrev pub picked : List ℕ → List ℕ → List ℕ
picked xs ks = map (λ i. get_or xs i 0) ks

picked_at : (out xs ks : List ℕ) (k : ℕ) → length out ≡ length ks → k < length ks →
    get_or (put_chunk 0 out (picked xs ks)) k 0 ≡ get_or xs (get_or ks k 0) 0
picked_at out xs ks k room below =
    ap (λ (v : List ℕ). get_or v k 0) (put_chunk_whole out (picked xs ks) (room ∙ sym (length-map ks (λ i. get_or xs i 0)))) ∙
    get_or-map (λ i. get_or xs i 0) ks k 0 0 below

abbrev first_order : List ℕ
first_order = 0 ∷ 16 ∷ 1 ∷ 17 ∷ 2 ∷ 18 ∷ 3 ∷ 19 ∷ 4 ∷ 20 ∷ 5 ∷ 21 ∷ 6 ∷ 22 ∷ 7 ∷ 23 ∷ []

abbrev last_order : List ℕ
last_order = 8 ∷ 24 ∷ 9 ∷ 25 ∷ 10 ∷ 26 ∷ 11 ∷ 27 ∷ 12 ∷ 28 ∷ 13 ∷ 29 ∷ 14 ∷ 30 ∷ 15 ∷ 31 ∷ []

abbrev order_of_4 : List ℕ
order_of_4 = 0 ∷ 4 ∷ 8 ∷ 12 ∷ 1 ∷ 5 ∷ 9 ∷ 13 ∷ 2 ∷ 6 ∷ 10 ∷ 14 ∷ 3 ∷ 7 ∷ 11 ∷ 15 ∷ []

first_is : (k : ℕ) → k < 16 → get_or first_order k 0 ≡ 16 * (k % 2) + (0 + k / 2)
first_is k below = eqb-true _ _ (holds_below 16 (λ k. eqb (get_or first_order k 0) (16 * (k % 2) + (0 + k / 2))) refl k below)

last_is : (k : ℕ) → k < 16 → get_or last_order k 0 ≡ 16 * (k % 2) + (8 + k / 2)
last_is k below = eqb-true _ _ (holds_below 16 (λ k. eqb (get_or last_order k 0) (16 * (k % 2) + (8 + k / 2))) refl k below)

turned_4 : (k : ℕ) → k < 16 → get_or order_of_4 k 0 ≡ k % 4 * 4 + k / 4
turned_4 k below = eqb-true _ _ (holds_below 16 (λ k. eqb (get_or order_of_4 k 0) (k % 4 * 4 + k / 4)) refl k below)

both_whole : (xs ys : List ℕ) → length xs ≡ 16 → length ys ≡ 16 → take 16 xs ++ take 16 ys ≡ xs ++ ys
both_whole xs ys l m = ap₂ (λ (v w : List ℕ). v ++ w) (take_all 16 xs (omega (arith, l))) (take_all 16 ys (omega (arith, m)))

pub first_woven : (out xs ys : List ℕ) → length xs ≡ 16 → length ys ≡ 16 → length out ≡ 16 →
    IsRow 16 (woven xs ys 0) (put_chunk 0 out (picked (take 16 xs ++ take 16 ys) first_order))
first_woven out xs ys l m room = λ k below.
    picked_at out (take 16 xs ++ take 16 ys) first_order k room below ∙
    ap₂ (λ (v : List ℕ) (i : ℕ). get_or v i 0) (both_whole xs ys l m) (first_is k below)

pub last_woven : (out xs ys : List ℕ) → length xs ≡ 16 → length ys ≡ 16 → length out ≡ 16 →
    IsRow 16 (woven xs ys 8) (put_chunk 0 out (picked (take 16 xs ++ take 16 ys) last_order))
last_woven out xs ys l m room = λ k below.
    picked_at out (take 16 xs ++ take 16 ys) last_order k room below ∙
    ap₂ (λ (v : List ℕ) (i : ℕ). get_or v i 0) (both_whole xs ys l m) (last_is k below)

pub four_turned : (out xs : List ℕ) → length xs ≡ 16 → length out ≡ 16 →
    HasRows 4 4 (λ x y. get_or xs (x * 4 + y) 0) (put_chunk 0 out (picked (take 16 xs ++ take 16 xs) order_of_4))
four_turned out xs l room = λ x y column row.
    let inside : y * 4 + x < 16 = omega (arith, column, row) in
    let place : (y * 4 + x) % 4 * 4 + (y * 4 + x) / 4 ≡ x * 4 + y = omega (arith, column, row) in
    picked_at out (take 16 xs ++ take 16 xs) order_of_4 (y * 4 + x) room inside ∙
    ap₂ (λ (v : List ℕ) (i : ℕ). get_or v i 0) (both_whole xs xs l l) (turned_4 (y * 4 + x) inside ∙ place) ∙
    get_or_append_left xs xs 0 (x * 4 + y) (omega (arith, l, column, row))

-- ---- a step
-- what two runs of a block give, from their sample h on
woven_place : (area i h k m n : ℕ) (from : List ℕ) → length from ≡ area → m ≡ 16 → n ≡ 16 →
    32 * (area / 32) ≡ area → i < area / 32 → h ≤ 8 → k < 16 →
    woven (take m (drop (16 * i) from)) (take n (drop (area / 2 + 16 * i) from)) h k ≡
    get_or from (lowest_to_top area (32 * i + 2 * h + k)) 0
woven_place area i h k m n from all em en runs inside few below = go (cases_lt (k % 2) 1)
  where
    first : List ℕ
    first = take m (drop (16 * i) from)

    second : List ℕ
    second = take n (drop (area / 2 + 16 * i) from)

    long : length first ≡ 16
    long = length-part (16 * i) m from (omega (arith, all, em, runs, inside)) ∙ em

    go : (k % 2 < 1) ⊎ (1 ≤ k % 2) →
        woven first second h k ≡ get_or from (lowest_to_top area (32 * i + 2 * h + k)) 0
    go (inl even) =
        let none : (32 * i + 2 * h + k) % 2 ≡ 0 = omega (arith, even) in
        let place : 16 * (k % 2) + (h + k / 2) ≡ h + k / 2 = omega (arith, even) in
        let target : 16 * i + (h + k / 2) ≡ 0 * (area / 2) + (32 * i + 2 * h + k) / 2 =
        omega (arith, even) in
        ap (λ j. get_or (first ++ second) j 0) place ∙
        get_or_append_left first second 0 (h + k / 2) (omega (arith, long, few, below)) ∙
        in_part (16 * i) m (h + k / 2) from (omega (arith, em, few, below)) ∙
        ap (λ j. get_or from j 0) target ∙
        ap (λ b. get_or from (b * (area / 2) + (32 * i + 2 * h + k) / 2) 0) (sym none)
    go (inr odd) =
        let one : (32 * i + 2 * h + k) % 2 ≡ 1 = omega (arith, odd) in
        let place : 16 * (k % 2) + (h + k / 2) ≡ 16 + (h + k / 2) = omega (arith, odd) in
        let target : area / 2 + 16 * i + (h + k / 2) ≡ 1 * (area / 2) + (32 * i + 2 * h + k) / 2 =
        omega (arith, odd) in
        ap (λ j. get_or (first ++ second) j 0) place ∙
        get_or-append_right first second 16 (16 + (h + k / 2)) 0 long (omega arith) ∙
        ap (λ j. get_or second j 0) (omega arith) ∙
        in_part (area / 2 + 16 * i) n (h + k / 2) from (omega (arith, en, few, below)) ∙
        ap (λ j. get_or from j 0) target ∙
        ap (λ b. get_or from (b * (area / 2) + (32 * i + 2 * h + k) / 2) 0) (sym one)

pub step_more : (area i k l m n : ℕ) (from to part more : List ℕ) → length from ≡ area → m ≡ 16 →
    n ≡ 16 → 32 * (area / 32) ≡ area → i < area / 32 → 32 * i ≤ length to →
    length part ≡ 16 → length more ≡ 16 →
    IsRow (32 * i) (λ j. get_or from (lowest_to_top area j) 0) to →
    IsRow 16 (woven (take m (drop (16 * i) from)) (take n (drop (area / 2 + 16 * i) from)) 0) part →
    IsRow 16 (woven (take m (drop (16 * i) from)) (take n (drop (area / 2 + 16 * i) from)) 8) more →
    IsRow (32 * i + 16 + 16) (λ j. get_or from (lowest_to_top area j) 0)
    (put_mid (32 * i + 16) l (put_mid (32 * i) k to part) more)
step_more area i k l m n from to part more all em en runs inside room long longer old new newer =
    row_parts (32 * i) 16 k l (32 * i + 16) (λ j. get_or from (lowest_to_top area j) 0) to part more
    refl room long longer old
    (λ x below.
    new x below ∙ woven_place area i 0 x m n from all em en runs inside (omega arith) below ∙
    ap (λ j. get_or from (lowest_to_top area j) 0) (omega arith))
    (λ x below.
    newer x below ∙ woven_place area i 8 x m n from all em en runs inside (omega arith) below ∙
    ap (λ j. get_or from (lowest_to_top area j) 0) (omega arith))

-- ---- a step over a block of 8x8, by its rows
abbrev row_order : List ℕ
row_order = 0 ∷ 8 ∷ 1 ∷ 9 ∷ 2 ∷ 10 ∷ 3 ∷ 11 ∷ 4 ∷ 12 ∷ 5 ∷ 13 ∷ 6 ∷ 14 ∷ 7 ∷ 15 ∷ []

row_order_is : (k : ℕ) → k < 16 → get_or row_order k 0 ≡ 8 * (k % 2) + k / 2
row_order_is k below =
    eqb-true _ _
    (holds_below 16 (λ k. eqb (get_or row_order k 0) (8 * (k % 2) + k / 2)) refl k below)

pub rows_woven : (out xs ys : List ℕ) → length xs ≡ 8 → length ys ≡ 8 → length out ≡ 16 →
    IsRow 16 (in_turn xs ys) (put_chunk 0 out (picked (take 8 xs ++ take 8 ys) row_order))
rows_woven out xs ys l m room = λ k below.
    let whole : take 8 xs ++ take 8 ys ≡ xs ++ ys =
    ap₂ (λ (v w : List ℕ). v ++ w) (take_all 8 xs (omega (arith, l)))
    (take_all 8 ys (omega (arith, m))) in
    picked_at out (take 8 xs ++ take 8 ys) row_order k room below ∙
    ap₂ (λ (v : List ℕ) (i : ℕ). get_or v i 0) whole (row_order_is k below)

row_place : (i k m n : ℕ) (from : List ℕ) → length from ≡ 64 → m ≡ 8 → n ≡ 8 → i < 4 → k < 16 →
    in_turn (take m (drop (8 * i) from)) (take n (drop (32 + 8 * i) from)) k ≡
    get_or from (lowest_to_top 64 (16 * i + k)) 0
row_place i k m n from all em en inside below = go (cases_lt (k % 2) 1)
  where
    first : List ℕ
    first = take m (drop (8 * i) from)

    second : List ℕ
    second = take n (drop (32 + 8 * i) from)

    long : length first ≡ 8
    long = length-part (8 * i) m from (omega (arith, all, em, inside)) ∙ em

    go : (k % 2 < 1) ⊎ (1 ≤ k % 2) →
        in_turn first second k ≡ get_or from (lowest_to_top 64 (16 * i + k)) 0
    go (inl even) =
        let place : 8 * (k % 2) + k / 2 ≡ k / 2 = omega (arith, even) in
        let target : 8 * i + k / 2 ≡ lowest_to_top 64 (16 * i + k) = omega (arith, even) in
        ap (λ j. get_or (first ++ second) j 0) place ∙
        get_or_append_left first second 0 (k / 2) (omega (arith, long, below)) ∙
        in_part (8 * i) m (k / 2) from (omega (arith, em, below)) ∙
        ap (λ j. get_or from j 0) target
    go (inr odd) =
        let place : 8 * (k % 2) + k / 2 ≡ 8 + k / 2 = omega (arith, odd) in
        let target : 32 + 8 * i + k / 2 ≡ lowest_to_top 64 (16 * i + k) = omega (arith, odd) in
        let there : 8 + k / 2 - 8 ≡ k / 2 = omega arith in
        ap (λ j. get_or (first ++ second) j 0) place ∙
        get_or-append_right first second 8 (8 + k / 2) 0 long (omega arith) ∙
        ap (λ j. get_or second j 0) there ∙
        in_part (32 + 8 * i) n (k / 2) from (omega (arith, en, below)) ∙
        ap (λ j. get_or from j 0) target

pub rows_more_woven : (i k m n : ℕ) (from to part : List ℕ) → length from ≡ 64 → m ≡ 8 → n ≡ 8 →
    i < 4 → length to ≡ 64 → length part ≡ 16 →
    IsRow (16 * i) (λ j. get_or from (lowest_to_top 64 j) 0) to →
    IsRow 16 (in_turn (take m (drop (8 * i) from)) (take n (drop (32 + 8 * i) from))) part →
    IsRow (16 * i + 16) (λ j. get_or from (lowest_to_top 64 j) 0) (put_mid (16 * i) k to part)
rows_more_woven i k m n from to part all em en inside room long old new =
    row_part (16 * i) 16 k (λ j. get_or from (lowest_to_top 64 j) 0) to part
    (omega (arith, room, inside)) long old
    (λ x below. new x below ∙ row_place i x m n from all em en inside below)

-- ---- two tiles, one beside the other
pub of_left : (first second : List ℕ) (i k : ℕ) → k < 16 → of_tiles first second (32 * i + k) ≡ get_or first (16 * i + k) 0
of_left first second i k below =
    let column : (32 * i + k) % 32 ≡ k = omega (arith, below) in
    let place : 16 * ((32 * i + k) / 32) + k % 16 ≡ 16 * i + k = omega (arith, below) in
    rw (column, lt-ltb k 16 below, place) refl

pub of_right : (first second : List ℕ) (i k : ℕ) → k < 16 → of_tiles first second (32 * i + 16 + k) ≡ get_or second (16 * i + k) 0
of_right first second i k below =
    let column : (32 * i + 16 + k) % 32 ≡ 16 + k = omega (arith, below) in
    let place : 16 * ((32 * i + 16 + k) / 32) + (16 + k) % 16 ≡ 16 * i + k = omega (arith, below) in
    rw (column, lt_not_below (16 + k) 16 (omega arith), place) refl

pub tiles_more : (i k l m n : ℕ) (first second out part more : List ℕ) → m ≡ 16 → n ≡ 16 → 32 * i ≤ length out →
    part ≡ take m (drop (16 * i) first) → more ≡ take n (drop (16 * i) second) → length part ≡ 16 → length more ≡ 16 →
    IsRow (32 * i) (of_tiles first second) out →
    IsRow (32 * i + 16 + 16) (of_tiles first second) (put_mid (32 * i + 16) l (put_mid (32 * i) k out part) more)
tiles_more i k l m n first second out part more em en room p q long longer old =
    row_parts (32 * i) 16 k l (32 * i + 16) (of_tiles first second) out part more refl room long longer old
    (λ x below.
    ap (λ (v : List ℕ). get_or v x 0) p ∙ in_part (16 * i) m x first (omega (arith, em, below)) ∙
    sym (of_left first second i x below))
    (λ x below.
    ap (λ (v : List ℕ). get_or v x 0) q ∙ in_part (16 * i) n x second (omega (arith, en, below)) ∙
    sym (of_right first second i x below))

pub tiles_joined : (row : ℕ) (columns first second out : List ℕ) →
    HasRows 16 16 (λ x y. get_or columns (32 * (0 + x) + row + y) 0) first →
    HasRows 16 16 (λ x y. get_or columns (32 * (16 + x) + row + y) 0) second →
    IsRow 512 (of_tiles first second) out →
    HasRows 32 16 (λ x y. get_or columns (x * 32 + (row + y)) 0) out
tiles_joined row columns first second out left right all = λ x y inside below. go x y inside below (cases_lt x 16)
  where
    go : (x y : ℕ) → x < 32 → y < 16 → (x < 16) ⊎ (16 ≤ x) → get_or out (y * 32 + x) 0 ≡ get_or columns (x * 32 + (row + y)) 0
    go x y inside below (inl less) =
        all (y * 32 + x) (omega (arith, inside, below)) ∙
        ap (of_tiles first second) (omega arith) ∙ of_left first second y x less ∙
        ap (λ j. get_or first j 0) (omega arith) ∙ left x y less below ∙ ap (λ j. get_or columns j 0) (omega arith)
    go x y inside below (inr more) =
        let e : 16 + (x - 16) ≡ x = omega (arith, more) in
        all (y * 32 + x) (omega (arith, inside, below)) ∙
        ap (of_tiles first second) (omega (arith, e)) ∙ of_right first second y (x - 16) (omega (arith, inside, more)) ∙
        ap (λ j. get_or second j 0) (omega arith) ∙ right (x - 16) y (omega (arith, inside, more)) below ∙
        ap (λ j. get_or columns j 0) (omega (arith, e))

-- the upper rows, and the lower ones
pub rows_joined : (k l : ℕ) (columns out upper lower : List ℕ) → length out ≡ 1024 → length upper ≡ 512 →
    length lower ≡ 512 → HasRows 32 16 (λ x y. get_or columns (x * 32 + (0 + y)) 0) upper →
    HasRows 32 16 (λ x y. get_or columns (x * 32 + (16 + y)) 0) lower →
    HasRows 32 32 (λ x y. get_or columns (x * 32 + y) 0) (put_mid 512 l (put_mid 0 k out upper) lower)
rows_joined k l columns out upper lower whole long longer above below = λ x y inside row. go x y inside row (cases_lt y 16)
  where
    all : IsRow (0 + 512 + 512) (λ j. cond (nat_lt j 512) (get_or upper j 0) (get_or lower (j - 512) 0)) (put_mid 512 l (put_mid 0 k out upper) lower)
    all =
        row_parts 0 512 k l 512 (λ j. cond (nat_lt j 512) (get_or upper j 0) (get_or lower (j - 512) 0)) out upper lower refl
        (omega arith) long longer (λ x none. absurd (omega (arith, none)))
        (λ j less. grind (arith, nat_tests, less)) (λ j less. grind (arith, nat_tests, less))

    go : (x y : ℕ) → x < 32 → y < 32 → (y < 16) ⊎ (16 ≤ y) →
        get_or (put_mid 512 l (put_mid 0 k out upper) lower) (y * 32 + x) 0 ≡ get_or columns (x * 32 + y) 0
    go x y inside row (inl less) =
        let h : y * 32 + x < 512 = omega (arith, inside, less) in
        let is : get_or upper (y * 32 + x) 0 ≡ get_or columns (x * 32 + y) 0 =
        above x y inside less ∙ ap (λ (j : ℕ). get_or columns j 0) (omega arith) in
        all (y * 32 + x) (omega (arith, inside, row)) ∙ rw (lt-ltb (y * 32 + x) 512 h) is
    go x y inside row (inr more) =
        let h : 512 ≤ y * 32 + x = omega (arith, more) in
        let place : y * 32 + x - 512 ≡ (y - 16) * 32 + x = omega (arith, more) in
        let column : x * 32 + (16 + (y - 16)) ≡ x * 32 + y = omega (arith, more) in
        let is : get_or lower (y * 32 + x - 512) 0 ≡ get_or columns (x * 32 + y) 0 =
        ap (λ (j : ℕ). get_or lower j 0) place ∙ below x (y - 16) inside (omega (arith, row, more)) ∙
        ap (λ (j : ℕ). get_or columns j 0) column in
        all (y * 32 + x) (omega (arith, inside, row)) ∙ rw (lt_not_below (y * 32 + x) 512 h) is
