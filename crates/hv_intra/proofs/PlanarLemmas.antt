-- Intra_Planar, lane by lane.
use Rattle.std.proofs.Common.{◌≡◌, ℕ, zero, suc, ◌+◌, ◌-◌, ◌*◌, ◌/◌, ◌^◌, ◌<◌, ◌≤◌, List, [], ◌∷◌, length, take, drop, map, replicate, get_or, eqb, refl, sym, ap, ap₂, ◌∙◌, arith, Fits, w8}
use Rattle.std.proofs.Math.Nat.{mul-le-mul, mul-le-mul_left}
use Rattle.std.proofs.lemmas.Bool.{eqb-true}
use Rattle.std.proofs.lemmas.List.{get_or-take, get_or-map, length-take-le, length-map}
use Rattle.std.proofs.lemmas.Simd.{put_chunk_whole, get_or-zip2, length-zip2, get_or-replicate, length-replicate}
use lib.Lanes.{Each1, zip2, put_chunk}
use Rattle.hv_lemmas.proofs.ComputedLemmas.{holds_below}
use Rattle.hv_sample_model.specs.IntraPrediction.{planar, left, above}
use Rattle.hv_intra.specs.Blocks.{IsRow}
use Rattle.hv_intra.specs.Lanes.{first_sum, planar_step, wrapped_sum, stepped}
use Rattle.hv_intra.proofs.LaneLemmas.{plus, minus, times, wide}
use Rattle.hv_intra.proofs.RowLemmas.{in_part, length-part}
use Rattle.hv_intra.proofs.SideLemmas.{by_side, weighted_below}

-- what a lane has before row y, 128 / N times that of the standard
abbrev pub row_sum : ℕ → ℕ → List ℕ → ℕ → ℕ → ℕ
row_sum n log2 line x y =
    128 / n *
    ((x + 1) * above log2 line (n + 1) + (n - y) * above log2 line (x + 1) + y * left log2 line (n + 1) + n)

-- ---- lanes
first_is : (right a r : ℕ) → a < 256 → plus (plus (times (wide a) 128) (times r right)) 128 ≡ first_sum right a r
first_is right a r h = omega arith

pub firsts_are : (n right : ℕ) (xs rs : List ℕ) → length xs ≡ n → length rs ≡ n → Each1 (Fits w8) xs →
    zip2 plus (zip2 plus (zip2 times (map wide xs) (replicate n 128)) (zip2 times rs (replicate n right))) (replicate n 128) ≡
    zip2 (first_sum right) xs rs
firsts_are zero right [] rs l m f = refl
firsts_are zero right (x ∷ xs) rs l m f = absurd (omega arith)
firsts_are (suc n) right [] rs l m f = absurd (omega arith)
firsts_are (suc n) right (x ∷ xs) [] l m f = absurd (omega arith)
firsts_are (suc n) right (x ∷ xs) (r ∷ rs) l m f =
    ap₂ (λ (a : ℕ) (b : List ℕ). a ∷ b) (first_is right x r f.0.fits) (firsts_are n right xs rs (omega arith) (omega arith) f.1)

step_is : (scale lower a : ℕ) → minus lower (times (wide a) scale) ≡ planar_step scale lower a
step_is scale lower a = omega arith

pub row_steps_are : (n scale lower : ℕ) (xs : List ℕ) → length xs ≡ n →
    zip2 minus (replicate n lower) (zip2 times (map wide xs) (replicate n scale)) ≡ map (planar_step scale lower) xs
row_steps_are zero scale lower [] l = refl
row_steps_are zero scale lower (x ∷ xs) l = absurd (omega arith)
row_steps_are (suc n) scale lower [] l = absurd (omega arith)
row_steps_are (suc n) scale lower (x ∷ xs) l =
    ap₂ (λ (a : ℕ) (b : List ℕ). a ∷ b) (step_is scale lower x) (row_steps_are n scale lower xs (omega arith))

pub row_put : (n w : ℕ) (row lanes xs ys : List ℕ) → length row ≡ n → length xs ≡ n → length ys ≡ n →
    lanes ≡ zip2 (stepped w) xs ys → put_chunk 0 row lanes ≡ zip2 (stepped w) xs ys
row_put n w row lanes xs ys l m o e =
    ap (put_chunk 0 row) e ∙
    put_chunk_whole row (zip2 (stepped w) xs ys) (l ∙ sym m ∙ sym (length-zip2 (stepped w) xs ys (m ∙ sym o)))

-- ---- the weights
abbrev numbers : List ℕ
numbers =
    1 ∷ 2 ∷ 3 ∷ 4 ∷ 5 ∷ 6 ∷ 7 ∷ 8 ∷ 9 ∷ 10 ∷ 11 ∷ 12 ∷ 13 ∷ 14 ∷ 15 ∷ 16 ∷ 17 ∷ 18 ∷ 19 ∷ 20 ∷ 21 ∷ 22 ∷ 23 ∷ 24 ∷
    25 ∷ 26 ∷ 27 ∷ 28 ∷ 29 ∷ 30 ∷ 31 ∷ 32 ∷ []

number_is : (x : ℕ) → x < 32 → get_or numbers x 0 ≡ x + 1
number_is x below = eqb-true _ _ (holds_below 32 (λ x. eqb (get_or numbers x 0) (x + 1)) refl x below)

pub rising_long : (n : ℕ) → n ≤ 32 → length (take n (take n numbers)) ≡ n
rising_long n few =
    let inner : length (take n numbers) ≡ n = length-take-le n numbers few in
    length-take-le n (take n numbers) (omega (arith, inner))

pub rising_is : (n : ℕ) → n ≤ 32 → IsRow n (λ x. x + 1) (take n (take n numbers))
rising_is n few = λ x below.
    get_or-take n (take n numbers) x 0 below ∙ get_or-take n numbers x 0 below ∙ number_is x (omega (arith, few, below))

pub falling_long : (n : ℕ) (rs : List ℕ) → length rs ≡ n → length (zip2 minus (replicate n n) rs) ≡ n
falling_long n rs l =
    length-zip2 minus (replicate n n) rs (length-replicate n n ∙ sym l) ∙ length-replicate n n

pub falling_is : (n : ℕ) (rs : List ℕ) → n ≤ 32 → length rs ≡ n → IsRow n (λ x. x + 1) rs →
    IsRow n (λ x. n - 1 - x) (zip2 minus (replicate n n) rs)
falling_is n rs few l up = λ x below.
    get_or-zip2 minus (replicate n n) rs x 0 0 0 (omega (arith, below, length-replicate n n)) (omega (arith, below, l)) ∙
    ap₂ minus (get_or-replicate n x n 0 below) (up x below) ∙ down n x few below
  where
    down : (n x : ℕ) → n ≤ 32 → x < n → minus n (x + 1) ≡ n - 1 - x
    down n x few below = omega arith

-- ---- the sums, without wrapping
scaled : (log2 : ℕ) → 2 ≤ log2 → log2 ≤ 5 → 128 / 2 ^ log2 * 2 ^ log2 ≡ 128
scaled = by_side (λ log2. 128 / 2 ^ log2 * 2 ^ log2 ≡ 128) refl refl refl refl

mean_is : (log2 t : ℕ) → 2 ≤ log2 → log2 ≤ 5 → 128 / 2 ^ log2 * t / 256 ≡ t / 2 ^ (log2 + 1)
mean_is log2 t least most =
    by_side (λ log2. 128 / 2 ^ log2 * t / 256 ≡ t / 2 ^ (log2 + 1)) (omega arith) (omega arith) (omega arith) (omega arith) log2 least most

few_scaled : (k n t : ℕ) → k * n ≡ 128 → t ≤ 511 * n → k * t ≤ 65408
few_scaled k n t e few =
    let most : k * t ≤ k * (511 * n) = mul-le-mul_left k few in
    let same : k * (511 * n) ≡ 511 * (k * n) = grind arith in
    omega (arith, most, same, e)

first_lane : (k n x a r l : ℕ) → k * n ≡ 128 → x < n → a < 256 → r < 256 →
    first_sum (k * r) a (x + 1) ≡ k * ((x + 1) * r + (n - 0) * a + 0 * l + n)
first_lane k n x a r l e inside h j =
    let across : (x + 1) * r ≤ n * 255 = mul-le-mul (omega arith) (omega arith) in
    let most : k * ((x + 1) * r) ≤ k * (n * 255) = mul-le-mul_left k across in
    let same : k * (n * 255) ≡ 255 * (k * n) = grind arith in
    let down : k * (n * a) ≡ k * n * a = grind arith in
    let weight : k * n * a ≡ 128 * a = ap (λ z. z * a) e in
    let parts : k * ((x + 1) * r + (n - 0) * a + 0 * l + n) ≡ k * ((x + 1) * r) + k * (n * a) + k * n =
    ap (λ z. k * ((x + 1) * r + z * a + 0 * l + n)) none ∙ split k ((x + 1) * r) (n * a) l n in
    let turned : (x + 1) * (k * r) ≡ k * ((x + 1) * r) = grind arith in
    rw (parts, turned) (omega (arith, most, same, e, down, weight, h))
  where
    none : n - 0 ≡ n
    none = omega arith

    split : (k p q l n : ℕ) → k * (p + q + 0 * l + n) ≡ k * p + k * q + k * n
    split k p q l n = grind arith

next_lane : (k n x y a r l : ℕ) → k * n ≡ 128 → x < n → y < n → a < 256 → r < 256 → l < 256 →
    wrapped_sum (k * ((x + 1) * r + (n - y) * a + y * l + n)) (planar_step k (k * l) a) ≡
    k * ((x + 1) * r + (n - (y + 1)) * a + (y + 1) * l + n)
next_lane k n x y a r l e inside row h i j =
    let across : (x + 1) * r ≤ n * 255 = mul-le-mul (omega arith) (omega arith) in
    let down : (n - (y + 1)) * a + (y + 1) * l ≤ 255 * n = weighted_below (n - (y + 1)) (y + 1) n a l (omega arith) (omega arith) (omega arith) in
    let whole : k * ((x + 1) * r + (n - (y + 1)) * a + (y + 1) * l + n) ≤ 65408 = few_scaled k n _ e (omega (arith, across, down)) in
    let more : n - y ≡ n - (y + 1) + 1 = omega arith in
    let before : k * ((x + 1) * r + (n - (y + 1) + 1) * a + y * l + n) + k * l ≡
    k * ((x + 1) * r + (n - (y + 1)) * a + (y + 1) * l + n) + k * a = grind arith in
    let one : 1 ≤ n = omega arith in
    let small : k * 1 ≤ k * n = mul-le-mul_left k one in
    let byte : a ≤ 255 = omega arith in
    let upper : k * a ≤ k * 255 = mul-le-mul_left k byte in
    rw more (omega (arith, before, whole, upper, small, e))

last_lane : (log2 n x y a r l p : ℕ) → 2 ≤ log2 → log2 ≤ 5 → n ≡ 2 ^ log2 → x < n → y < n → a < 256 → r < 256 → l < 256 → p < 256 →
    stepped (128 / n * p) (128 / n * ((x + 1) * r + (n - (y + 1)) * a + (y + 1) * l + n)) (n - 1 - x) ≡
    ((n - 1 - x) * p + (x + 1) * r + (n - 1 - y) * a + (y + 1) * l + n) / 2 ^ (log2 + 1)
last_lane log2 n x y a r l p least most side inside row h i j o =
    let k : ℕ = 128 / n in
    let e : k * n ≡ 128 = ap (λ m. 128 / m * m) side ∙ scaled log2 least most in
    let across : (n - 1 - x) * p + (x + 1) * r ≤ 255 * n = weighted_below (n - 1 - x) (x + 1) n p r (omega arith) (omega arith) (omega arith) in
    let down : (n - (y + 1)) * a + (y + 1) * l ≤ 255 * n = weighted_below (n - (y + 1)) (y + 1) n a l (omega arith) (omega arith) (omega arith) in
    let t : ℕ = (n - 1 - x) * p + (x + 1) * r + (n - (y + 1)) * a + (y + 1) * l + n in
    let few : k * t ≤ 65408 = few_scaled k n t e (omega (arith, across, down)) in
    let whole : k * ((x + 1) * r + (n - (y + 1)) * a + (y + 1) * l + n) + k * p * (n - 1 - x) ≡ k * t = joined k (n - 1 - x) p ((x + 1) * r) ((n - (y + 1)) * a) ((y + 1) * l) n in
    let wrapped : stepped (k * p) (k * ((x + 1) * r + (n - (y + 1)) * a + (y + 1) * l + n)) (n - 1 - x) ≡ k * t / 256 = omega (arith, few, whole) in
    let weight : n - (y + 1) ≡ n - 1 - y = omega arith in
    wrapped ∙ ap (λ m. 128 / m * t / 256) side ∙ mean_is log2 t least most ∙
    ap (λ m. ((n - 1 - x) * p + (x + 1) * r + m * a + (y + 1) * l + n) / 2 ^ (log2 + 1)) weight
  where
    joined : (k f p b c d n : ℕ) → k * (b + c + d + n) + k * p * f ≡ k * (f * p + b + c + d + n)
    joined k f p b c d n = grind arith

-- ---- rows
above_lane : (log2 n m x : ℕ) (line : List ℕ) → n ≡ 2 ^ log2 → m ≡ n → x < n →
    get_or (take n (take m (drop (2 * n + 1) line))) x 0 ≡ above log2 line (x + 1)
above_lane log2 n m x line side e inside =
    get_or-take n (take m (drop (2 * n + 1) line)) x 0 inside ∙
    in_part (2 * n + 1) m x line (omega (arith, e, inside)) ∙ ap (λ i. get_or line i 0) (omega (arith, side))

above_long : (log2 n m : ℕ) (line : List ℕ) → m ≡ n → length line ≡ 4 * n + 1 →
    length (take n (take m (drop (2 * n + 1) line))) ≡ n
above_long log2 n m line e long =
    let inner : length (take m (drop (2 * n + 1) line)) ≡ m = length-part (2 * n + 1) m line (omega (arith, e, long)) in
    length-take-le n (take m (drop (2 * n + 1) line)) (omega (arith, inner, e))

pub planar_begun : (log2 n m right : ℕ) (line rs sums : List ℕ) → 2 ≤ log2 → log2 ≤ 5 → n ≡ 2 ^ log2 → m ≡ n →
    length line ≡ 4 * n + 1 → ((i : ℕ) → get_or line i 0 < 256) → length rs ≡ n → IsRow n (λ x. x + 1) rs →
    right ≡ above log2 line (n + 1) →
    sums ≡ zip2 (first_sum (128 / n * right)) (take n (take m (drop (2 * n + 1) line))) rs →
    (length sums ≡ n) × IsRow n (λ x. row_sum n log2 line x 0) sums
planar_begun log2 n m right line rs sums least most side em long bytes lr up r is =
    let e : 128 / n * n ≡ 128 = ap (λ m. 128 / m * m) side ∙ scaled log2 least most in
    let xs : List ℕ = take n (take m (drop (2 * n + 1) line)) in
    let lx : length xs ≡ n = above_long log2 n m line em long in (
      ap length is ∙ length-zip2 (first_sum (128 / n * right)) xs rs (lx ∙ sym lr) ∙ lx,
      (λ x inside.
          ap (λ v. get_or v x 0) is ∙
          get_or-zip2 (first_sum (128 / n * right)) xs rs x 0 0 0 (omega (arith, lx, inside)) (omega (arith, lr, inside)) ∙
          ap₂ (first_sum (128 / n * right)) (above_lane log2 n m x line side em inside) (up x inside) ∙
          ap (λ q. first_sum (128 / n * q) (above log2 line (x + 1)) (x + 1)) r ∙
          first_lane (128 / n) n x (above log2 line (x + 1)) (above log2 line (n + 1)) (left log2 line (n + 1)) e inside (bytes _) (bytes _)),
    )

pub planar_next : (log2 n m lower y : ℕ) (line steps sums next : List ℕ) → 2 ≤ log2 → log2 ≤ 5 → n ≡ 2 ^ log2 → m ≡ n →
    length line ≡ 4 * n + 1 → ((i : ℕ) → get_or line i 0 < 256) → y < n → lower ≡ left log2 line (n + 1) →
    steps ≡ map (planar_step (128 / n) (128 / n * lower)) (take n (take m (drop (2 * n + 1) line))) →
    length sums ≡ n → IsRow n (λ x. row_sum n log2 line x y) sums → next ≡ zip2 wrapped_sum sums steps →
    (length next ≡ n) × IsRow n (λ x. row_sum n log2 line x (y + 1)) next
planar_next log2 n m lower y line steps sums next least most side em long bytes row l are ls before is =
    let e : 128 / n * n ≡ 128 = ap (λ m. 128 / m * m) side ∙ scaled log2 least most in
    let xs : List ℕ = take n (take m (drop (2 * n + 1) line)) in
    let lx : length xs ≡ n = above_long log2 n m line em long in
    let lt : length steps ≡ n = ap length are ∙ length-map xs (planar_step (128 / n) (128 / n * lower)) ∙ lx in (
      ap length is ∙ length-zip2 wrapped_sum sums steps (ls ∙ sym lt) ∙ ls,
      (λ x inside.
          ap (λ v. get_or v x 0) is ∙
          get_or-zip2 wrapped_sum sums steps x 0 0 0 (omega (arith, ls, inside)) (omega (arith, lt, inside)) ∙
          ap₂ wrapped_sum (before x inside)
          (ap (λ v. get_or v x 0) are ∙ get_or-map (planar_step (128 / n) (128 / n * lower)) xs x 0 0 (omega (arith, lx, inside)) ∙
          ap₂ (λ q a. planar_step (128 / n) (128 / n * q) a) l (above_lane log2 n m x line side em inside)) ∙
          next_lane (128 / n) n x y (above log2 line (x + 1)) (above log2 line (n + 1)) (left log2 line (n + 1)) e inside row (bytes _) (bytes _) (bytes _)),
    )

pub planar_row : (log2 n p y : ℕ) (line sums falls row : List ℕ) → 2 ≤ log2 → log2 ≤ 5 → n ≡ 2 ^ log2 →
    ((i : ℕ) → get_or line i 0 < 256) → y < n → p ≡ left log2 line (y + 1) →
    length sums ≡ n → IsRow n (λ x. row_sum n log2 line x (y + 1)) sums →
    length falls ≡ n → IsRow n (λ x. n - 1 - x) falls → row ≡ zip2 (stepped (128 / n * p)) sums falls →
    (length row ≡ n) × IsRow n (λ x. planar log2 line x y) row
planar_row log2 n p y line sums falls row least most side bytes below e ls all lf down is = (
  ap length is ∙ length-zip2 (stepped (128 / n * p)) sums falls (ls ∙ sym lf) ∙ ls,
  (λ x inside.
      ap (λ v. get_or v x 0) is ∙
      get_or-zip2 (stepped (128 / n * p)) sums falls x 0 0 0 (omega (arith, ls, inside)) (omega (arith, lf, inside)) ∙
      ap₂ (stepped (128 / n * p)) (all x inside) (down x inside) ∙
      ap (λ q. stepped (128 / n * q) (row_sum n log2 line x (y + 1)) (n - 1 - x)) e ∙
      last_lane log2 n x y (above log2 line (x + 1)) (above log2 line (n + 1)) (left log2 line (n + 1)) (left log2 line (y + 1)) least most side inside below (bytes _) (bytes _) (bytes _) (bytes _) ∙
      ap (λ m. ((m - 1 - x) * left log2 line (y + 1) + (x + 1) * above log2 line (m + 1) + (m - 1 - y) * above log2 line (x + 1) + (y + 1) * left log2 line (m + 1) + m) / 2 ^ (log2 + 1)) side),
)
