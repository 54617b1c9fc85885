-- Samples between reference samples, lane by lane.
use Rattle.std.proofs.Common.{◌≡◌, ℕ, zero, suc, ◌+◌, ◌-◌, ◌*◌, ◌/◌, ◌%◌, ◌<◌, ◌≤◌, List, [], ◌∷◌, length, take, drop, map, replicate, get_or, cond, eqb, false, refl, sym, ap, ap₂, ◌∙◌, arith, inl, inr, subst, mul-add, Fits, w8}
use Rattle.std.specs.Prelude.{◌⊎◌}
use Rattle.std.proofs.lemmas.Bool.{cases_lt, ne_eqb}
use Rattle.std.proofs.lemmas.Simd.{put_chunk_whole, get_or-zip2, length-zip2}
use Rattle.std.proofs.lemmas.List.{length-map, get_or-map}
use lib.Lanes.{Each1, zip2, put_chunk}
use lib.Seq.{take_all}
use mir.Syntax.{w16, wrap_add, wrap_sub, wrap_mul, shr, cast, unsigned}
use borrow.Rule.Simd.Lanes.{act1, act2, Asks1}
use borrow.Table.Row.{s_int}
use Rattle.hv_intra.specs.Lanes.{base, step, stepped, base_at, stepped_at}
use Rattle.std.proofs.Math.Nat.{mul-le-mul_right}
use Rattle.hv_intra.specs.References.{blended, sample_between}
use Rattle.hv_intra.proofs.RowLemmas.{in_part}

abbrev pub plus : ℕ → ℕ → ℕ
plus = act2 wrap_add (s_int w16) (s_int w16) (s_int w16)

abbrev pub minus : ℕ → ℕ → ℕ
minus = act2 wrap_sub (s_int w16) (s_int w16) (s_int w16)

abbrev pub times : ℕ → ℕ → ℕ
times = act2 wrap_mul (s_int w16) (s_int w16) (s_int w16)

abbrev pub down : ℕ → ℕ → ℕ
down = act2 (shr unsigned) (s_int w16) (s_int w16) (s_int w16)

abbrev pub wide : ℕ → ℕ
wide = act1 (cast unsigned unsigned w16) (s_int w8) (s_int w16)

abbrev pub narrow : ℕ → ℕ
narrow = act1 (cast unsigned unsigned w8) (s_int w16) (s_int w8)

-- ---- bases and steps
base_is : (a : ℕ) → a < 256 → plus (times (wide a) 256) 128 ≡ base a
base_is a h = omega arith

pub bases_are : (n : ℕ) (xs : List ℕ) → length xs ≡ n → Each1 (Fits w8) xs →
    zip2 plus (zip2 times (map wide xs) (replicate n 256)) (replicate n 128) ≡ map base xs
bases_are zero [] l f = refl
bases_are zero (x ∷ xs) l f = absurd (omega arith)
bases_are (suc n) [] l f = absurd (omega arith)
bases_are (suc n) (x ∷ xs) l f =
    ap₂ (λ (a : ℕ) (b : List ℕ). a ∷ b) (base_is x f.0.fits) (bases_are n xs (omega arith) f.1)

step_is : (a b : ℕ) → a < 256 → b < 256 → minus (wide b) (wide a) ≡ step a b
step_is a b h k = omega arith

pub steps_are : (xs ys : List ℕ) → Each1 (Fits w8) xs → Each1 (Fits w8) ys →
    zip2 minus (map wide ys) (map wide xs) ≡ zip2 step xs ys
steps_are [] [] f g = refl
steps_are [] (y ∷ ys) f g = refl
steps_are (x ∷ xs) [] f g = refl
steps_are (x ∷ xs) (y ∷ ys) f g =
    ap₂ (λ (a : ℕ) (b : List ℕ). a ∷ b) (step_is x y f.0.fits g.0.fits) (steps_are xs ys f.1 g.1)

-- ---- a part of the way
abbrev pub between : ℕ → List ℕ → List ℕ → List ℕ → List ℕ
between n ws bs ss = zip2 down (zip2 plus bs (zip2 times ws ss)) (replicate n 8)

lane_is : (w b s : ℕ) → narrow (down (plus b (times w s)) 8) ≡ stepped w b s
lane_is w b s = omega arith

pub between_is : (n w : ℕ) (bs ss : List ℕ) → length bs ≡ n → length ss ≡ n →
    map narrow (between n (replicate n w) bs ss) ≡ zip2 (stepped w) bs ss
between_is zero w [] [] l m = refl
between_is zero w [] (s ∷ ss) l m = absurd (omega arith)
between_is zero w (b ∷ bs) ss l m = absurd (omega arith)
between_is (suc n) w [] ss l m = absurd (omega arith)
between_is (suc n) w (b ∷ bs) [] l m = absurd (omega arith)
between_is (suc n) w (b ∷ bs) (s ∷ ss) l m =
    ap₂ (λ (a : ℕ) (b : List ℕ). a ∷ b) (lane_is w b s) (between_is n w bs ss (omega arith) (omega arith))

lane_fits : (w b s : ℕ) → Asks1 (cast unsigned unsigned w8) (s_int w16) (down (plus b (times w s)) 8)
lane_fits w b s = omega arith

pub between_fits : (n : ℕ) (ws bs ss : List ℕ) →
    Each1 (Asks1 (cast unsigned unsigned w8) (s_int w16)) (between n ws bs ss)
between_fits n ws [] ss = tt
between_fits n [] (b ∷ bs) ss = tt
between_fits n (w ∷ ws) (b ∷ bs) [] = tt
between_fits zero (w ∷ ws) (b ∷ bs) (s ∷ ss) = tt
between_fits (suc n) (w ∷ ws) (b ∷ bs) (s ∷ ss) = (lane_fits w b s, between_fits n ws bs ss)

pub same_lanes : (n a b : ℕ) (f : ℕ → ℕ → ℕ) → zip2 f (replicate n a) (replicate n b) ≡ replicate n (f a b)
same_lanes zero a b f = refl
same_lanes (suc n) a b f = ap (λ (v : List ℕ). f a b ∷ v) (same_lanes n a b f)

pub further_on : (y t : ℕ) → (y * t % 65536 + t) % 65536 ≡ (y + 1) * t % 65536
further_on y t =
    let more : (y + 1) * t ≡ y * t + t = grind arith in rw more (omega arith)

-- ---- what is written
pub bases_written : (n : ℕ) (out xs lanes : List ℕ) → length xs ≡ n → length out ≡ n →
    lanes ≡ map base (take n xs) → (k : ℕ) → k < n → get_or (put_chunk 0 out lanes) k 0 ≡ base_at xs k
bases_written n out xs lanes l m e k below =
    let all : take n xs ≡ xs = take_all n xs (omega (arith, l)) in
    let is : lanes ≡ map base xs = e ∙ ap (map base) all in
    ap (λ (v : List ℕ). get_or (put_chunk 0 out v) k 0) is ∙
    ap (λ (v : List ℕ). get_or v k 0) (put_chunk_whole out (map base xs) (m ∙ sym l ∙ sym (length-map xs base))) ∙
    get_or-map base xs k 0 0 (omega (arith, below, l))

pub zipped : (n : ℕ) (f : ℕ → ℕ → ℕ) (out xs ys lanes : List ℕ) → length xs ≡ n → length ys ≡ n →
    length out ≡ n → lanes ≡ zip2 f (take n xs) (take n ys) → (k : ℕ) → k < n →
    get_or (put_chunk 0 out lanes) k 0 ≡ f (get_or xs k 0) (get_or ys k 0)
zipped n f out xs ys lanes l m o e k below =
    let first : take n xs ≡ xs = take_all n xs (omega (arith, l)) in
    let second : take n ys ≡ ys = take_all n ys (omega (arith, m)) in
    let is : lanes ≡ zip2 f xs ys = e ∙ ap₂ (λ (v w : List ℕ). zip2 f v w) first second in
    ap (λ (v : List ℕ). get_or (put_chunk 0 out v) k 0) is ∙
    ap (λ (v : List ℕ). get_or v k 0) (put_chunk_whole out (zip2 f xs ys) (o ∙ sym l ∙ sym (length-zip2 f xs ys (l ∙ sym m)))) ∙
    get_or-zip2 f xs ys k 0 0 0 (omega (arith, below, l)) (omega (arith, below, m))

-- ---- a sample by its base and step
weights_join : (r p a d : ℕ) → r * a + p * (a + d) ≡ (r + p) * a + p * d
weights_join r p a d = grind arith

weights_part : (r p b d : ℕ) → r * (b + d) + p * b + p * d ≡ (r + p) * (b + d)
weights_part r p b d = grind arith

rising : (p a d : ℕ) → p < 32 → a + d < 256 →
    (256 * a + 128 + 8 * p * d % 65536) % 65536 / 256 ≡ ((32 - p) * a + p * (a + d) + 16) / 32
rising p a d h k =
    let r : 32 - p + p ≡ 32 = omega arith in
    let join : (32 - p) * a + p * (a + d) ≡ 32 * a + p * d = weights_join (32 - p) p a d ∙ ap (λ n. n * a + p * d) r in
    let few : p * d ≤ 31 * d = mul-le-mul_right d (omega arith) in
    let eight : 8 * p * d ≡ 8 * (p * d) = grind arith in
    rw (eight, join) (omega (arith, few))

falling : (p b d : ℕ) → p < 32 → b + d < 256 → 0 < d →
    (256 * (b + d) + 128 + 8 * p * (65536 - d) % 65536) % 65536 / 256 ≡ ((32 - p) * (b + d) + p * b + 16) / 32
falling p b d h k some =
    let r : 32 - p + p ≡ 32 = omega arith in
    let join : (32 - p) * (b + d) + p * b + p * d ≡ 32 * (b + d) = weights_part (32 - p) p b d ∙ ap (λ n. n * (b + d)) r in
    let few : p * d ≤ 31 * d = mul-le-mul_right d (omega arith) in
    let whole : 65536 - d + d ≡ 65536 = omega arith in
    let parts : p * (65536 - d) + p * d ≡ p * 65536 = sym (mul-add p (65536 - d) d) ∙ ap (λ n. p * n) whole in
    let eight : 8 * p * (65536 - d) ≡ 8 * (p * (65536 - d)) = grind arith in
    rw eight (omega (arith, few, parts, join))

pub stepped_is : (p a b : ℕ) → p < 32 → a < 256 → b < 256 → stepped (8 * p) (base a) (step a b) ≡ blended p a b
stepped_is p a b h k l = go (cases_lt b a)
  where
    go : (b < a) ⊎ (a ≤ b) → stepped (8 * p) (base a) (step a b) ≡ blended p a b
    go (inr up) =
        let d : step a b ≡ b - a = omega (arith, up) in
        let e : a + (b - a) ≡ b = omega (arith, up) in
        ap (λ s. (256 * a + 128 + 8 * p * s % 65536) % 65536 / 256) d ∙ rising p a (b - a) h (omega (arith, up)) ∙
        ap (λ c. ((32 - p) * a + p * c + 16) / 32) e
    go (inl down) =
        let d : step a b ≡ 65536 - (a - b) = omega (arith, down) in
        let e : b + (a - b) ≡ a = omega (arith, down) in
        ap (λ s. (256 * a + 128 + 8 * p * s % 65536) % 65536 / 256) d ∙
        subst (λ c. (256 * c + 128 + 8 * p * (65536 - (a - b)) % 65536) % 65536 / 256 ≡ ((32 - p) * c + p * b + 16) / 32) e
        (falling p b (a - b) h (omega (arith, down)) (omega (arith, down)))

-- the cases of a sample between reference samples are one
pub stepped_between : (p first x : ℕ) (reference bases steps : List ℕ) → p < 32 → ((k : ℕ) → get_or reference k 0 < 256) →
    get_or bases (first + x) 0 ≡ base_at reference (first + x) →
    get_or steps (first + x) 0 ≡ step (get_or reference (first + x) 0) (get_or reference (first + x + 1) 0) →
    stepped_at bases steps (8 * p) (first + x) ≡ sample_between reference first p x
stepped_between p first x reference bases steps h f b s =
    let here : ℕ = get_or reference (first + x) 0 in
    let next : ℕ = get_or reference (first + x + 1) 0 in
    ap₂ (stepped (8 * p)) b s ∙ stepped_is p here next h (f (first + x)) (f (first + x + 1)) ∙ chosen p here next
  where
    chosen : (p a b : ℕ) → blended p a b ≡ cond (eqb p 0) a (blended p a b)
    chosen zero a b = omega arith
    chosen (suc p) a b =
        let off : eqb (suc p) 0 ≡ false = ne_eqb (suc p) 0 (λ same. absurd (omega arith)) in rw off refl

pub copied : (n : ℕ) (from to : List ℕ) → length from ≡ n → length to ≡ n → put_chunk 0 to (take n from) ≡ from
copied n from to l m =
    ap (put_chunk 0 to) (take_all n from (omega (arith, l))) ∙ put_chunk_whole to from (m ∙ sym l)

-- a place of a run
pub run_is : (from k l i place w : ℕ) (bases steps : List ℕ) → i < k → i < l → place ≡ from + i →
    stepped_at (take k (drop from bases)) (take l (drop from steps)) w i ≡ stepped_at bases steps w place
run_is from k l i place w bases steps below inside e =
    ap₂ (stepped w) (in_part from k i bases below) (in_part from l i steps inside) ∙ ap (stepped_at bases steps w) (sym e)
