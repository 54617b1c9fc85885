-- The sums over rows, from their lanes.
use Rattle.std.proofs.Common.{List, ap, ap₂, arith, drop, false, length, nat_lt, refl, subst, sym, take, true, ℕ, ℤ, ◌%◌, ◌*ℤ◌, ◌*◌, ◌+ℤ◌, ◌+◌, ◌-◌, ◌/◌, ◌<◌, ◌^◌, ◌∙◌, ◌≡◌, ◌≤◌}
use Rattle.std.specs.Int.RustNames.{unsigned_abs}
use mir.Syntax.{w32}
use Rattle.hv_lanes.specs.Lanes.{FourLanes, Numbers, at, weight, woven}
use Rattle.hv_lanes.proofs.FourLaneLemmas.{kept_four, same_lanes}
use Rattle.hv_lanes.proofs.LaneStepLemmas.{passed}
use Rattle.std.proofs.lemmas.Bool.{cases_lt}
use Rattle.std.proofs.lemmas.List.{length-drop, length-take-le}
use mathlib.Core.Logic.{⊎_elim}
use Rattle.hv_lemmas.specs.Clipping.{clip16}
use Rattle.hv_sample_model.specs.Quantisation.{rounded}
use Rattle.hv_lanes.specs.Passes.{AreWithin, HasFirst, table_row}
use Rattle.hv_forward.specs.Forward.{EightLanes, HasFour, HasOddRow, HasRowWeights, folded_difference, folded_sum, in_eights, in_turn, line_of, quarter_sum, row_mean, row_sum, rows_mean, sixteen_sums}
use Rattle.hv_lanes.proofs.PartLemmas.{HasFirst-put, at_part, clip_fits, numbers_by}
use mir.Syntax.{w16}
use Rattle.hv_forward.proofs.RowLaneLemmas.{kept_eight, numbers_of_eight}
use Rattle.hv_tables.specs.TransformMatrix.{transMatrix}
use Rattle.hv_lanes.proofs.SumLemmas.{chunk, eight_sum, sixteen_sum, sum_of_same}
use Rattle.std.proofs.lemmas.Bool.Decides.{nat_tests}
use Rattle.std.specs.Prelude.{◌-ℤ◌}
use Rattle.hv_forward.proofs.FoldLemmas.{even_frequency, odd_frequency, row_sum_small}
use borrow.Rule.Slice.PartMut.{put_mid}
use Rattle.std.proofs.lemmas.Nat.{div-mul-add, mod-mul-add}

-- lanes of small sums are the sums themselves
-- even numbers and odd ones
by_parity : (P : ℕ → Type 0) (u : ℕ) → (u % 2 ≡ 0 → P u) → (u % 2 ≡ 1 → P u) → P u
by_parity P u even odd =
    ⊎_elim
    (λ (below : u % 2 < 1). even (omega (arith, below)))
    (λ (above : 1 ≤ u % 2). odd (omega (arith, above)))
    (cases_lt (u % 2) 1)

in_turn_is : (f : ℕ → ℤ) (u : ℕ) → in_turn (λ j. f (2 * j)) (λ j. f (2 * j + 1)) u ≡ f u
in_turn_is f u =
    by_parity (λ u. in_turn (λ j. f (2 * j)) (λ j. f (2 * j + 1)) u ≡ f u) u
    (λ e.
    let place : 2 * (u / 2) ≡ u = omega (arith, e) in
    rw e (ap f place))
    (λ e.
    let place : 2 * (u / 2) + 1 ≡ u = omega (arith, e) in
    rw e (ap f place))

pub woven_is_all : (f : ℕ → ℤ) (n k : ℕ) (a b : List ℤ) → HasFirst n (λ u. f (2 * u)) a → HasFirst n (λ u. f (2 * u + 1)) b → k < 2 * n → woven a b k ≡ f k
woven_is_all f n k a b even odd below =
    let half : k / 2 < n = omega (arith, below) in
    by_parity (λ k. k / 2 < n → woven a b k ≡ f k) k
    (λ e half.
    let place : 2 * (k / 2) ≡ k = omega (arith, e) in
    rw e (even (k / 2) half ∙ ap f place))
    (λ e half.
    let place : 2 * (k / 2) + 1 ≡ k = omega (arith, e) in
    rw e (odd (k / 2) half ∙ ap f place))
    half

abbrev pub IsInTurn : ℕ → List ℤ → List ℤ → List ℤ → Type 0
IsInTurn n a b r = (f g : ℕ → ℤ) → FourLanes f (passed w32 a) → FourLanes g (passed w32 b) → FourLanes (λ j. in_turn f g (n + j)) r

pub in_order_low : (f : ℕ → ℤ) (a b r : List ℤ) → FourLanes (λ j. f (2 * j)) a → FourLanes (λ j. f (2 * j + 1)) b → ((g h : ℕ → ℤ) → FourLanes g (passed w32 a) → FourLanes h (passed w32 b) → FourLanes (in_turn g h) r) → FourLanes f r
in_order_low f a b r even odd turn =
    same_lanes (in_turn (λ j. f (2 * j)) (λ j. f (2 * j + 1))) f r (λ j below. in_turn_is f j) (turn (λ j. f (2 * j)) (λ j. f (2 * j + 1)) (kept_four _ a even) (kept_four _ b odd))

pub in_order_high : (f : ℕ → ℤ) (a b r : List ℤ) → FourLanes (λ j. f (2 * j)) a → FourLanes (λ j. f (2 * j + 1)) b → IsInTurn 4 a b r → FourLanes (λ j. f (4 + j)) r
in_order_high f a b r even odd turn =
    same_lanes (λ j. in_turn (λ j. f (2 * j)) (λ j. f (2 * j + 1)) (4 + j)) (λ j. f (4 + j)) r (λ j below. in_turn_is f (4 + j)) (turn (λ j. f (2 * j)) (λ j. f (2 * j + 1)) (kept_four _ a even) (kept_four _ b odd))

-- eights
pub own_lanes : (most : ℕ) (c : ℕ → ℤ) (v : List ℤ) → EightLanes most c v → EightLanes most (at v) v
own_lanes most c v h =
    record {
      count = h.count;
      each = λ x below. refl;
      small = λ x below. rw (h.each x below) (h.small x below);
    }

pub more_lanes : (most more : ℕ) (c : ℕ → ℤ) (v : List ℤ) → most ≤ more → EightLanes most c v → EightLanes more c v
more_lanes most more c v less h = record { count = h.count; each = h.each; small = λ x below. omega (arith, h.small x below, less) }

pub part_lanes : (n a most : ℕ) (line v : List ℤ) → length line ≡ n → a + 8 ≤ n → AreWithin n most line → v ≡ take 8 (drop a line) → EightLanes most (λ x. at line (a + x)) v
part_lanes n a most line v long inside within e =
    record {
      count = ap length e ∙ length-take-le 8 (drop a line) (omega (arith, length-drop a line, long, inside));
      each = λ x below. ap (λ v. at v x) e ∙ at_part a 8 x line below;
      small = λ x below. within (a + x) (omega (arith, inside, below));
    }

pub part_numbers : (n a : ℕ) (line v : List ℤ) → length line ≡ n → a + 8 ≤ n → AreWithin n 255 line → v ≡ take 8 (drop a line) → Numbers v
part_numbers n a line v long inside within e = numbers_of_eight 255 (λ x. at line (a + x)) v (omega arith) (part_lanes n a 255 line v long inside within e)

pub row_sum_same : (log2 u : ℕ) (c d : ℕ → ℤ) → ((x : ℕ) → x < 2 ^ log2 → c x ≡ d x) → row_sum log2 c u ≡ row_sum log2 d u
row_sum_same log2 u c d same =
    sum_of_same (2 ^ log2) (λ x. transMatrix log2 u x *ℤ c x) (λ x. transMatrix log2 u x *ℤ d x) (λ x below. ap (λ z. transMatrix log2 u x *ℤ z) (same x below))

pub row_mean_same : (log2 s u : ℕ) (c d : ℕ → ℤ) → ((x : ℕ) → x < 2 ^ log2 → c x ≡ d x) → row_mean log2 c s u ≡ row_mean log2 d s u
row_mean_same log2 s u c d same = ap (λ z. clip16 (rounded z s)) (row_sum_same log2 u c d same)

pub first_eight : (c d : ℕ → ℤ) (x : ℕ) → x < 8 → in_eights c d x ≡ c x
first_eight c d x below =
    let yes : nat_lt x 8 ≡ true = grind (arith, nat_tests, below) in
    rw yes refl

pub second_eight : (c d : ℕ → ℤ) (x : ℕ) → 8 ≤ x → in_eights c d x ≡ d (x - 8)
second_eight c d x past =
    let no : nat_lt x 8 ≡ false = grind (arith, nat_tests, past) in
    rw no refl

pub eights_sum : (c d : ℕ → ℤ) (x : ℕ) → x < 8 → c x +ℤ d (7 - x) ≡ folded_sum 8 (in_eights c d) x
eights_sum c d x below =
    let place : 7 - x ≡ 15 - x - 8 = omega (arith, below) in
    sym (ap₂ (λ p q. p +ℤ q) (first_eight c d x below) (second_eight c d (15 - x) (omega (arith, below)) ∙ sym (ap d place)))

pub eights_difference : (c d : ℕ → ℤ) (x : ℕ) → x < 8 → c x -ℤ d (7 - x) ≡ folded_difference 8 (in_eights c d) x
eights_difference c d x below =
    let place : 7 - x ≡ 15 - x - 8 = omega (arith, below) in
    sym (ap₂ (λ p q. p -ℤ q) (first_eight c d x below) (second_eight c d (15 - x) (omega (arith, below)) ∙ sym (ap d place)))

-- sums of four numbers
pub even_quarter : (w : List ℤ) (f : ℕ → ℤ) (j : ℕ) → HasFour w → j < 4 → quarter_sum w (λ x. f x +ℤ f (7 - x)) 0 j ≡ row_sum 3 f (2 * j)
even_quarter w f j has below =
    sum_of_same 4 (λ r. weight w j r *ℤ (f (4 * 0 + r) +ℤ f (7 - (4 * 0 + r)))) (λ x. transMatrix 2 j x *ℤ folded_sum 4 f x)
    (λ r small.
    let here : 4 * 0 + r ≡ r = omega arith in
    ap₂ (λ a b. a *ℤ b) (has j r below small) (ap (λ i. f i +ℤ f (7 - i)) here)) ∙
    sym (even_frequency 2 j f (omega arith) (omega arith) below)

pub odd_quarter : (w : List ℤ) (f : ℕ → ℤ) (j : ℕ) → HasOddRow 3 0 0 w → j < 4 → quarter_sum w (λ x. f x -ℤ f (7 - x)) 0 j ≡ row_sum 3 f (2 * j + 1)
odd_quarter w f j has below =
    let frequency : 2 * (4 * 0 + j) + 1 ≡ 2 * j + 1 = omega arith in
    sum_of_same 4 (λ r. weight w j r *ℤ (f (4 * 0 + r) -ℤ f (7 - (4 * 0 + r)))) (λ x. transMatrix 3 (2 * j + 1) x *ℤ folded_difference 4 f x)
    (λ r small.
    let here : 4 * 0 + r ≡ r = omega arith in
    ap₂ (λ a b. a *ℤ b) (has j r below small ∙ ap₂ (transMatrix 3) frequency here) (ap (λ i. f i -ℤ f (7 - i)) here)) ∙
    sym (odd_frequency 2 j f (omega arith) (omega arith) below)

-- the products of an odd half at frequency 2 k + 1
abbrev odd_product : ℕ → (ℕ → ℤ) → ℕ → ℕ → ℤ
odd_product log2 f k x = transMatrix (log2 + 1) (2 * k + 1) x *ℤ folded_difference (2 ^ log2) f x

quarter_is : (log2 g p q j : ℕ) (w : List ℤ) (f c : ℕ → ℤ) → HasOddRow (log2 + 1) g (p + q) w → j < 4 → ((r : ℕ) → r < 4 → c (4 * q + r) ≡ folded_difference (2 ^ log2) f (4 * (p + q) + r)) → quarter_sum w c q j ≡ chunk (odd_product log2 f (4 * g + j)) (p + q)
quarter_is log2 g p q j w f c has below each =
    sum_of_same 4 (λ r. weight w j r *ℤ c (4 * q + r)) (λ r. odd_product log2 f (4 * g + j) (4 * (p + q) + r))
    (λ r small. ap₂ (λ a b. a *ℤ b) (has j r below small) (each r small))

pub odd_eight : (g j : ℕ) (w₀ w₁ : List ℤ) (f c : ℕ → ℤ) → g < 2 → j < 4 → HasOddRow 4 g 0 w₀ → HasOddRow 4 g 1 w₁ → ((x : ℕ) → x < 8 → c x ≡ folded_difference 8 f x) → quarter_sum w₀ c 0 j +ℤ quarter_sum w₁ c 1 j ≡ row_sum 4 f (2 * (4 * g + j) + 1)
odd_eight g j w₀ w₁ f c few below has₀ has₁ each =
    ap₂ (λ a b. a +ℤ b)
    (quarter_is 3 g 0 0 j w₀ f c has₀ below (λ r small. each (4 * 0 + r) (omega (arith, small))))
    (quarter_is 3 g 0 1 j w₁ f c has₁ below (λ r small. each (4 * 1 + r) (omega (arith, small)))) ∙
    sym (eight_sum (odd_product 3 f (4 * g + j))) ∙
    sym (odd_frequency 3 (4 * g + j) f (omega arith) (omega arith) (omega (arith, few, below)))

pub odd_sixteen : (g i j : ℕ) (table : List (List ℤ)) (f c d : ℕ → ℤ) → g < 4 → j < 4
    → HasOddRow 5 g 0 (table_row table i) → HasOddRow 5 g 1 (table_row table (i + 1)) → HasOddRow 5 g 2 (table_row table (i + 2)) → HasOddRow 5 g 3 (table_row table (i + 3))
    → ((x : ℕ) → x < 8 → c x ≡ folded_difference 16 f x) → ((x : ℕ) → x < 8 → d x ≡ folded_difference 16 f (8 + x)) → sixteen_sums table i c d j ≡ row_sum 5 f (2 * (4 * g + j) + 1)
odd_sixteen g i j table f c d few below has₀ has₁ has₂ has₃ first second =
    ap₂ (λ a b. a +ℤ b)
    (ap₂ (λ a b. a +ℤ b)
    (quarter_is 4 g 0 0 j (table_row table i) f c has₀ below (λ r small. first (4 * 0 + r) (omega (arith, small))))
    (quarter_is 4 g 0 1 j (table_row table (i + 1)) f c has₁ below (λ r small. first (4 * 1 + r) (omega (arith, small)))))
    (ap₂ (λ a b. a +ℤ b)
    (quarter_is 4 g 2 0 j (table_row table (i + 2)) f d has₂ below (λ r small. second (4 * 0 + r) (omega (arith, small)) ∙ ap (folded_difference 16 f) (omega arith)))
    (quarter_is 4 g 2 1 j (table_row table (i + 3)) f d has₃ below (λ r small. second (4 * 1 + r) (omega (arith, small)) ∙ ap (folded_difference 16 f) (omega arith)))) ∙
    sym (sixteen_sum (odd_product 4 f (4 * g + j))) ∙
    sym (odd_frequency 4 (4 * g + j) f (omega arith) (omega arith) (omega (arith, few, below)))

pub row_weights_below : (l m : ℕ) (table : List (List ℤ)) → l ≤ m → HasRowWeights m table → HasRowWeights l table
row_weights_below l m table less h =
    record {
      four = h.four;
      odd = λ d g q inside s t. h.odd d g q (omega (arith, less, inside)) s t;
      small = h.small;
    }

-- how great the sums over rows of such numbers are
pub sum_of_8_small : (c : ℕ → ℤ) → ((x : ℕ) → x < 8 → unsigned_abs (c x) ≤ 4080) → (u : ℕ) → u < 8 → unsigned_abs (row_sum 3 c u) ≤ 1073741824
sum_of_8_small c h u below = omega (arith, row_sum_small 3 u 4080 c (omega arith) (omega arith) below h)

pub sum_of_16_small : (c : ℕ → ℤ) → ((x : ℕ) → x < 16 → unsigned_abs (c x) ≤ 2040) → (u : ℕ) → u < 16 → unsigned_abs (row_sum 4 c u) ≤ 1073741824
sum_of_16_small c h u below = omega (arith, row_sum_small 4 u 2040 c (omega arith) (omega arith) below h)

pub sum_of_32_small : (c : ℕ → ℤ) → ((x : ℕ) → x < 32 → unsigned_abs (c x) ≤ 255) → (u : ℕ) → u < 32 → unsigned_abs (row_sum 5 c u) ≤ 1073741824
sum_of_32_small c h u below = omega (arith, row_sum_small 5 u 255 c (omega arith) (omega arith) below h)

pub eights_small : (most : ℕ) (a b : List ℤ) → EightLanes most (at a) a → EightLanes most (at b) b → (x : ℕ) → x < 16 → unsigned_abs (in_eights (at a) (at b) x) ≤ most
eights_small most a b h k x below =
    ⊎_elim
    (λ (less : x < 8). rw (first_eight (at a) (at b) x less) (h.small x less))
    (λ (more : 8 ≤ x). rw (second_eight (at a) (at b) x more) (k.small (x - 8) (omega (arith, below, more))))
    (cases_lt x 8)

-- means have 16 bits
pub mean_numbers : (f : ℕ → ℤ) (s : ℕ) (out : List ℤ) → length out ≡ 8 → HasFirst 8 (λ u. clip16 (rounded (f u) s)) out → Numbers out
mean_numbers f s out l h = numbers_by 8 (λ u. clip16 (rounded (f u) s)) out (omega (arith, l)) h (λ u. clip_fits (rounded (f u) s))

-- one more row of a block
pub lines_more : (log2 y s k : ℕ) (block line out new : List ℤ) → line ≡ take (2 ^ log2) (drop (y * 2 ^ log2) block) → y * 2 ^ log2 ≤ length out → length new ≡ 2 ^ log2
    → HasFirst (2 ^ log2) (row_mean log2 (at line) s) new → HasFirst (y * 2 ^ log2) (rows_mean log2 block s) out → HasFirst (y * 2 ^ log2 + 2 ^ log2) (rows_mean log2 block s) (put_mid (y * 2 ^ log2) k out new)
lines_more log2 y s k block line out new e room long row old =
    let n : ℕ = 2 ^ log2 in
    HasFirst-put (y * n) n k (rows_mean log2 block s) out new room long old
    (λ m below.
    row m below ∙
    row_mean_same log2 s m (at line) (line_of n block y) (λ x inside. ap (λ v. at v x) e ∙ at_part (y * n) n x block inside) ∙
    sym (ap₂ (λ y u. row_mean log2 (line_of n block y) s u) (div-mul-add y n m below) (mod-mul-add y n m below)))

-- a row of 32, in four eights
pub outer_sum : (f : ℕ → ℤ) (x : ℕ) → x < 8 → f (0 + x) +ℤ f (24 + (7 - x)) ≡ folded_sum 16 f x
outer_sum f x below =
    let here : 0 + x ≡ x = omega arith in
    let there : 24 + (7 - x) ≡ 31 - x = omega (arith, below) in
    ap₂ (λ a b. f a +ℤ f b) here there

pub inner_sum : (f : ℕ → ℤ) (x : ℕ) → x < 8 → f (8 + x) +ℤ f (16 + (7 - x)) ≡ folded_sum 16 f (8 + x)
inner_sum f x below =
    let there : 16 + (7 - x) ≡ 31 - (8 + x) = omega (arith, below) in
    ap (λ b. f (8 + x) +ℤ f b) there

pub outer_difference : (f : ℕ → ℤ) (x : ℕ) → x < 8 → f (0 + x) -ℤ f (24 + (7 - x)) ≡ folded_difference 16 f x
outer_difference f x below =
    let here : 0 + x ≡ x = omega arith in
    let there : 24 + (7 - x) ≡ 31 - x = omega (arith, below) in
    ap₂ (λ a b. f a -ℤ f b) here there

pub inner_difference : (f : ℕ → ℤ) (x : ℕ) → x < 8 → f (8 + x) -ℤ f (16 + (7 - x)) ≡ folded_difference 16 f (8 + x)
inner_difference f x below =
    let there : 16 + (7 - x) ≡ 31 - (8 + x) = omega (arith, below) in
    ap (λ b. f (8 + x) -ℤ f b) there

pub sums_in_eights : (f c d : ℕ → ℤ) (i : ℕ) → ((x : ℕ) → x < 8 → c x ≡ folded_sum 16 f x) → ((x : ℕ) → x < 8 → d x ≡ folded_sum 16 f (8 + x)) → i < 16 → in_eights c d i ≡ folded_sum 16 f i
sums_in_eights f c d i first second below =
    ⊎_elim
    (λ (less : i < 8). first_eight c d i less ∙ first i less)
    (λ (more : 8 ≤ i).
    let here : 8 + (i - 8) ≡ i = omega (arith, more) in
    second_eight c d i more ∙ second (i - 8) (omega (arith, below, more)) ∙ ap (folded_sum 16 f) here)
    (cases_lt i 8)

-- four places of the odd frequencies of a row of 32
pub odd_lanes_of_32 : (g i : ℕ) (table : List (List ℤ)) (f : ℕ → ℤ) (v : List ℤ) → g < 4
    → HasOddRow 5 g 0 (table_row table i) → HasOddRow 5 g 1 (table_row table (i + 1)) → HasOddRow 5 g 2 (table_row table (i + 2)) → HasOddRow 5 g 3 (table_row table (i + 3))
    → FourLanes (sixteen_sums table i (λ x. f (0 + x) -ℤ f (24 + (7 - x))) (λ x. f (8 + x) -ℤ f (16 + (7 - x)))) v → FourLanes (λ j. row_sum 5 f (2 * (4 * g + j) + 1)) v
odd_lanes_of_32 g i table f v few has₀ has₁ has₂ has₃ h =
    let c : ℕ → ℤ = λ x. f (0 + x) -ℤ f (24 + (7 - x)) in
    let d : ℕ → ℤ = λ x. f (8 + x) -ℤ f (16 + (7 - x)) in
    same_lanes (sixteen_sums table i c d) (λ j. row_sum 5 f (2 * (4 * g + j) + 1)) v
    (λ j below. odd_sixteen g i j table f c d few below has₀ has₁ has₂ has₃ (outer_difference f) (inner_difference f)) h

-- the second half of the odd frequencies
pub later_lanes : (f : ℕ → ℤ) (m n : ℕ) (v : List ℤ) → ((j : ℕ) → m + j ≡ n + j) → FourLanes (λ j. f (m + j)) v → FourLanes (λ j. f (n + j)) v
later_lanes f m n v e h = same_lanes (λ j. f (m + j)) (λ j. f (n + j)) v (λ j below. ap f (e j)) h

-- two rows of four: their sums, and those of the rows that they are in a block
abbrev pub two_rows : List ℤ → ℕ → ℤ
two_rows lines k = row_sum 2 (line_of 4 lines (k / 4)) (k % 4)

quarter_at : (w lines : List ℤ) (q j k : ℕ) → HasFour w → j < 4 → k / 4 ≡ q → k % 4 ≡ j → quarter_sum w (at lines) q j ≡ two_rows lines k
quarter_at w lines q j k has below row place =
    sum_of_same 4 (λ r. weight w j r *ℤ at lines (4 * q + r)) (λ r. transMatrix 2 j r *ℤ at lines (q * 4 + r))
    (λ r less. ap₂ (λ a b. a *ℤ b) (has j r below less) (ap (at lines) (omega arith))) ∙
    sym (ap₂ (λ q j. row_sum 2 (line_of 4 lines q) j) row place)

pub first_row : (w lines v : List ℤ) → HasFour w → FourLanes (quarter_sum w (at lines) 0) v → FourLanes (two_rows lines) v
first_row w lines v has h =
    same_lanes (quarter_sum w (at lines) 0) (two_rows lines) v (λ j below. quarter_at w lines 0 j j has below (omega (arith, below)) (omega (arith, below))) h

pub second_row : (w lines v : List ℤ) → HasFour w → FourLanes (quarter_sum w (at lines) 1) v → FourLanes (λ j. two_rows lines (4 + j)) v
second_row w lines v has h =
    same_lanes (quarter_sum w (at lines) 1) (λ j. two_rows lines (4 + j)) v (λ j below. quarter_at w lines 1 j (4 + j) has below (omega (arith, below)) (omega (arith, below))) h

pub two_rows_small : (lines : List ℤ) (k : ℕ) → AreWithin 8 255 lines → k < 8 → unsigned_abs (two_rows lines k) ≤ 1073741824
two_rows_small lines k within below =
    let size : unsigned_abs (two_rows lines k) ≤ 64 * 2 ^ 2 * 255 =
    row_sum_small 2 (k % 4) 255 (line_of 4 lines (k / 4)) (omega arith) (omega arith) (omega arith) (λ x less. within (k / 4 * 4 + x) (omega (arith, below, less))) in
    omega (arith, size)

pub two_lines : (q s : ℕ) (block new : List ℤ) → HasFirst 8 (rows_mean 2 (take 8 (drop (8 * q) block)) s) new → (n : ℕ) → n < 8 → at new n ≡ rows_mean 2 block s (8 * q + n)
two_lines q s block new h n below =
    let row : (8 * q + n) / 4 ≡ 2 * q + n / 4 = omega arith in
    let place : (8 * q + n) % 4 ≡ n % 4 = omega arith in
    h n below ∙
    row_mean_same 2 s (n % 4) (line_of 4 (take 8 (drop (8 * q) block)) (n / 4)) (line_of 4 block (2 * q + n / 4))
    (λ x less.
    at_part (8 * q) 8 (n / 4 * 4 + x) block (omega (arith, below, less)) ∙
    ap (at block) (omega arith)) ∙
    sym (ap₂ (λ y u. row_mean 2 (line_of 4 block y) s u) row place)

-- eight numbers of a list, in lanes
pub whole_lanes : (line v : List ℤ) → length line ≡ 8 → AreWithin 8 255 line → v ≡ line → EightLanes 255 (at line) (passed w16 v)
whole_lanes line v long within e =
    kept_eight 255 (at line) v (omega arith) (subst (EightLanes 255 (at line)) (sym e) (record { count = long; each = λ x below. refl; small = λ x below. within x below }))
