-- Intra_DC, lane by lane (8.4.4.2.5).
use Rattle.std.proofs.Common.{◌≡◌, ℕ, zero, suc, ◌+◌, ◌-◌, ◌*◌, ◌/◌, ◌^◌, ◌<◌, ◌≤◌, false, List, []}
use Rattle.std.proofs.Common.{◌∷◌, length, take, drop, map, replicate, get_or, cond, eqb, set, w8}
use Rattle.std.proofs.Common.{get_or-set_same, get_or-set_other, refl, sym, ap, ap₂, ◌∙◌, arith}
use Rattle.std.proofs.Common.{Fits}
use Rattle.std.specs.Simd.Lanes.{sum_l}
use Rattle.std.proofs.lemmas.Bool.{ne_eqb}
use Rattle.std.proofs.lemmas.List.{get_or-map, get_or-drop, length-map, length-drop}
use Rattle.std.proofs.lemmas.Simd.{put_chunk_whole, get_or-replicate, length-replicate}
use lib.Lanes.{Each1, zip2, put_chunk}
use lib.Seq.{take_all}
use mir.Syntax.{w16, cast, unsigned}
use borrow.Rule.Simd.Lanes.{Asks1}
use borrow.Table.Row.{s_int}
use Rattle.hv_sample_model.specs.Blocks.{total_of}
use Rattle.hv_sample_model.specs.IntraPrediction.{dcVal, edged, left, above}
use Rattle.hv_intra.specs.Blocks.{IsRow}
use Rattle.hv_intra.specs.Lines.{edge_of}
use Rattle.hv_intra.proofs.LaneLemmas.{plus, down, wide, narrow}
use Rattle.hv_intra.proofs.RowLemmas.{in_part, length-part}

-- ---- the mean
pub sum_wide : (xs : List ℕ) → sum_l (map wide xs) ≡ sum_l xs
sum_wide [] = refl
sum_wide (x ∷ xs) = ap (λ s. x + s) (sum_wide xs)

sum_more : (m : ℕ) (xs : List ℕ) → m < length xs →
    sum_l (take (suc m) xs) ≡ sum_l (take m xs) + get_or xs m 0
sum_more m [] h = absurd (omega (arith, h))
sum_more zero (x ∷ xs) h = omega arith
sum_more (suc m) (x ∷ xs) h = omega (arith, sum_more m xs (omega (arith, h)))

sum_before : (m a : ℕ) (xs : List ℕ) → a < length xs →
    sum_l (take (suc m) (drop a xs)) ≡ get_or xs a 0 + sum_l (take m (drop (suc a) xs))
sum_before m a [] h = absurd (omega (arith, h))
sum_before m zero (x ∷ xs) h = refl
sum_before m (suc a) (x ∷ xs) h = sum_before m a xs (omega (arith, h))

-- the neighbours of both sides of a corner, from it on
sides_sum : (m c : ℕ) (line : List ℕ) → m ≤ c → c + m < length line →
    total_of m (λ i. get_or line (c + (i + 1)) 0 + get_or line (c - (i + 1)) 0) ≡
    sum_l (take m (drop (c + 1) line)) + sum_l (take m (drop (c - m) line))
unfolding total_of
sides_sum zero c line h k = refl
sides_sum (suc m) c line h k =
    let before = sides_sum m c line (omega (arith, h)) (omega (arith, k)) in
    let up = sum_more m (drop (c + 1) line) (omega (arith, k, length-drop (c + 1) line)) in
    let after : c + 1 + m ≡ c + (m + 1) = omega arith in
    let behind : get_or (drop (c + 1) line) m 0 ≡ get_or line (c + (m + 1)) 0 =
    get_or-drop (c + 1) line m 0 ∙ ap (λ i. get_or line i 0) after in
    let down = sum_before m (c - suc m) line (omega (arith, h, k)) in
    let next : suc (c - suc m) ≡ c - m = omega (arith, h) in
    let rest : sum_l (take m (drop (suc (c - suc m)) line)) ≡ sum_l (take m (drop (c - m) line)) =
    ap (λ i. sum_l (take m (drop i line))) next in
    let place : c - suc m ≡ c - (m + 1) = omega arith in
    let lower : get_or line (c - suc m) 0 ≡ get_or line (c - (m + 1)) 0 =
    ap (λ i. get_or line i 0) place in
    omega (arith, before, up, behind, down, lower, rest)

part_sum : (n m a : ℕ) (line : List ℕ) → m ≡ n → a + n ≤ length line →
    sum_l (take n (take m (drop a line))) ≡ sum_l (take n (drop a line))
part_sum n m a line e inside =
    let long = length-part a m line (omega (arith, e, inside)) in
    ap sum_l (take_all n (take m (drop a line)) (omega (arith, long, e))) ∙
    ap (λ k. sum_l (take k (drop a line))) e

pub mean_is : (log2 n m k a b : ℕ) (line : List ℕ) → n ≡ 2 ^ log2 →
    length line ≡ 4 * 2 ^ log2 + 1 → m ≡ n → k ≡ n →
    a ≡ sum_l (take n (take m (drop (2 * n + 1) line))) →
    b ≡ sum_l (take n (take k (drop n line))) →
    (a + b + n) / 2 ^ (log2 + 1) ≡ dcVal log2 line
mean_is log2 n m k a b line side long em ek ea eb =
    let first = ea ∙ part_sum n m (2 * n + 1) line em (omega (arith, long, side)) in
    let second = eb ∙ part_sum n k n line ek (omega (arith, long, side)) in
    let both = sides_sum n (2 * n) line (omega arith) (omega (arith, long, side)) in
    let beside : sum_l (take n (drop (2 * n - n) line)) ≡ sum_l (take n (drop n line)) =
    ap (λ i. sum_l (take n (drop i line))) (omega arith) in
    let total : ℕ → ℕ =
    λ k. total_of k (λ i. get_or line (2 * k + (i + 1)) 0 + get_or line (2 * k - (i + 1)) 0) in
    let all : a + b ≡ total n = omega (arith, first, second, both, beside) in
    ap (λ s. (s + n) / 2 ^ (log2 + 1)) all ∙ ap (λ k. (total k + k) / 2 ^ (log2 + 1)) side

-- ---- the edges
edge_is : (more a : ℕ) → more ≤ 767 → a < 256 →
    narrow (down (plus (wide a) more) 2) ≡ edge_of more a
edge_is more a h k = omega arith

pub edges_are : (n more : ℕ) (xs : List ℕ) → more ≤ 767 → length xs ≡ n → Each1 (Fits w8) xs →
    map narrow (zip2 down (zip2 plus (map wide xs) (replicate n more)) (replicate n 2)) ≡
    map (edge_of more) xs
edges_are zero more [] h l f = refl
edges_are zero more (x ∷ xs) h l f = absurd (omega arith)
edges_are (suc n) more [] h l f = absurd (omega arith)
edges_are (suc n) more (x ∷ xs) h l f =
    ap₂ (λ (a : ℕ) (b : List ℕ). a ∷ b) (edge_is more x h f.0.fits)
    (edges_are n more xs h (omega arith) f.1)

edge_fits : (more a : ℕ) → more ≤ 767 → a < 256 →
    Asks1 (cast unsigned unsigned w8) (s_int w16) (down (plus (wide a) more) 2)
edge_fits more a h k = omega arith

pub edges_fit : (n more : ℕ) (xs : List ℕ) → more ≤ 767 → Each1 (Fits w8) xs →
    Each1 (Asks1 (cast unsigned unsigned w8) (s_int w16))
    (zip2 down (zip2 plus (map wide xs) (replicate n more)) (replicate n 2))
edges_fit zero more [] h f = tt
edges_fit zero more (x ∷ xs) h f = tt
edges_fit (suc n) more [] h f = tt
edges_fit (suc n) more (x ∷ xs) h f =
    (edge_fits more x h f.0.fits, edges_fit n more xs h f.1)

-- the edge beside the neighbours from place a on
put_edges : (n m a more : ℕ) (out line lanes : List ℕ) → m ≡ n → a + n ≤ length line →
    length out ≡ n → lanes ≡ map (edge_of more) (take n (take m (drop a line))) →
    put_chunk 0 out lanes ≡ map (edge_of more) (take m (drop a line))
put_edges n m a more out line lanes e inside o is =
    let ys : List ℕ = take m (drop a line) in
    let long : length ys ≡ n = length-part a m line (omega (arith, e, inside)) ∙ e in
    ap (put_chunk 0 out)
    (is ∙ ap (map (edge_of more)) (take_all n ys (omega (arith, long)))) ∙
    put_chunk_whole out (map (edge_of more) ys)
    (o ∙ sym long ∙ sym (length-map ys (edge_of more)))

pub edges_written : (n m a more : ℕ) (out line lanes : List ℕ) → m ≡ n → a + n ≤ length line →
    length out ≡ n →
    lanes ≡ map (edge_of more) (take n (take m (drop a line))) →
    IsRow n (λ x. edge_of more (get_or line (a + x) 0)) (put_chunk 0 out lanes)
edges_written n m a more out line lanes e inside o is = λ x below.
    let ys : List ℕ = take m (drop a line) in
    let long : length ys ≡ n = length-part a m line (omega (arith, e, inside)) ∙ e in
    ap (λ v. get_or v x 0) (put_edges n m a more out line lanes e inside o is) ∙
    get_or-map (edge_of more) ys x 0 0 (omega (arith, long, below)) ∙
    ap (edge_of more) (in_part a m x line (omega (arith, e, below)))

pub edges_long : (n m a more : ℕ) (out line lanes : List ℕ) → m ≡ n → a + n ≤ length line →
    length out ≡ n → lanes ≡ map (edge_of more) (take n (take m (drop a line))) →
    length (put_chunk 0 out lanes) ≡ n
edges_long n m a more out line lanes e inside o is =
    let ys : List ℕ = take m (drop a line) in
    ap length (put_edges n m a more out line lanes e inside o is) ∙
    length-map ys (edge_of more) ∙ length-part a m line (omega (arith, e, inside)) ∙ e

pub upper_row : (log2 n value corner : ℕ) (line row : List ℕ) → 1 ≤ n → n ≡ 2 ^ log2 →
    length row ≡ n →
    corner ≡ (left log2 line 1 + 2 * value + above log2 line 1 + 2) / 4 →
    IsRow n (λ x. edge_of (3 * value + 2) (get_or line (2 * n + 1 + x) 0)) row →
    IsRow n (λ x. edged value log2 line x 0) (set row 0 corner)
upper_row log2 n value corner line row some side long is beside = λ x below. go x below
  where
    go : (x : ℕ) → x < n → get_or (set row 0 corner) x 0 ≡ edged value log2 line x 0
    go zero below = get_or-set_same row 0 corner 0 (omega (arith, long, some)) ∙ is
    go (suc x) below =
        let off : eqb (suc x) 0 ≡ false = ne_eqb (suc x) 0 (λ same. absurd (omega (arith, same))) in
        let place : get_or line (2 * n + 1 + suc x) 0 ≡ above log2 line (suc x + 1) =
        ap (λ i. get_or line i 0) (omega (arith, side)) in
        let is : edge_of (3 * value + 2) (get_or line (2 * n + 1 + suc x) 0) ≡
        (above log2 line (suc x + 1) + 3 * value + 2) / 4 =
        ap (edge_of (3 * value + 2)) place ∙ ap (λ s. s / 4) (omega arith) in
        get_or-set_other row 0 (suc x) corner 0 (λ same. absurd (omega (arith, same))) ∙
        beside (suc x) below ∙ is ∙ rw off refl

pub lower_row : (n edge value : ℕ) (row : List ℕ) → 1 ≤ n → length row ≡ n →
    IsRow n (λ x. cond (eqb x 0) edge value) (set (put_chunk 0 row (replicate n value)) 0 edge)
lower_row n edge value row some long = λ x below.
    ap (λ v. get_or (set v 0 edge) x 0)
    (put_chunk_whole row (replicate n value) (long ∙ sym (length-replicate n value))) ∙ go x below
  where
    go : (x : ℕ) → x < n → get_or (set (replicate n value) 0 edge) x 0 ≡ cond (eqb x 0) edge value
    go zero below =
        get_or-set_same (replicate n value) 0 edge 0
        (omega (arith, length-replicate n value, some))
    go (suc x) below =
        let off : eqb (suc x) 0 ≡ false = ne_eqb (suc x) 0 (λ same. absurd (omega (arith, same))) in
        get_or-set_other (replicate n value) 0 (suc x) edge 0
        (λ same. absurd (omega (arith, same))) ∙
        get_or-replicate n (suc x) value 0 below ∙ rw off refl
