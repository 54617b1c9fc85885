-- A block of mode DC without a level but 0 is grey where all that was decoded before it is grey:
-- its neighbours stand for 128 (8.4.4.2.2), so do those that it is predicted as (8.4.4.2.5), and
-- its residual is 0 (8.6.2).
use Rattle.std.proofs.Common.{◌≡◌, ℕ, zero, suc, ◌+◌, ◌-◌, ◌*◌, ◌/◌, ◌^◌, ◌<◌, ◌≤◌, Bool, true, false, cond, List, [], ◌∷◌, ◌++◌, length, replicate, map, refl, sym, ap, ap₂, subst, ◌∙◌, arith, length-append, pow_pos, ℤ, pos, ◌+ℤ◌, ◌*ℤ◌}
use Rattle.std.specs.Prelude.{All, flat_map, nat_eq, nat_lt, nat_le, ◌&&◌, ◌||◌, slice_index_or, Option, Some, None}
use Rattle.std.specs.Int.{int_shr}
use Rattle.std.proofs.Math.Nat.{pow-suc}
use Rattle.std.proofs.Math.IntN.{*ℤ-zero}
use Rattle.std.proofs.lemmas.Nat.{div-mul-add, mul-add-lt}
use Rattle.std.proofs.lemmas.Bool.{or_parts}
use Rattle.std.proofs.lemmas.Bool.Decides.{nat_tests}
use Rattle.std.proofs.lemmas.List.{get_or-replicate, replicate-append-replicate}
use Rattle.std.proofs.lemmas.List.Elements.{All-nil, All-cons, All-head, All-tail, All-append}
use Rattle.hv_lemmas.specs.Clipping.{clip16}
use Rattle.hv_lemmas.specs.Lists.{tabulate}
use Rattle.hv_lemmas.proofs.ListLemmas.{length-tabulate}
use Rattle.hv_tables.specs.TransformMatrix.{transMatrix}
use Rattle.hv_tables.specs.Quantisers.{levelScale}
use Rattle.hv_sample_model.specs.Blocks.{square, at_place, sum_of, total_of}
use Rattle.hv_sample_model.specs.IntraPrediction.{first_available, filled_from, substituted, is_smoothed, filtered, left, above, dcVal, by_mode, predicted}
use Rattle.hv_sample_model.specs.InverseTransform.{scaled, column_sample, inverse_sample, residual}
use Rattle.hv_plan.specs.Levels.{is_significant, any_significant}
use Rattle.hv_tree_model.proofs.LevelLemmas.{insignificant}
use Rattle.hv_recon_model.specs.Reconstruction.{Component, Square, left_of, above_of, neighbours, sum_of as sum_of_lists, is_in, with_block}

-- ---- what is decoded is 128

abbrev pub IsGrey : Option ℕ → Type 0
IsGrey None = Unit {0}
IsGrey (Some sample) = sample ≡ 128

abbrev pub AreGrey : Component → Type 0
AreGrey samples = (x y : ℕ) → IsGrey (samples x y)

none_or_grey : (test : Bool) (p : Option ℕ) → IsGrey p → IsGrey (cond test None p)
none_or_grey true p grey = tt
none_or_grey false p grey = grey

-- ---- neighbours

left_grey : (samples : Component) (s : Square) → AreGrey samples → (i : ℕ) →
    IsGrey (left_of samples s i)
left_grey samples s grey zero =
    none_or_grey (nat_eq s.x 0 || nat_eq s.y 0) (samples (s.x - 1) (s.y - 1)) (grey _ _)
left_grey samples s grey (suc i) =
    none_or_grey (nat_eq s.x 0) (samples (s.x - 1) (s.y + i)) (grey _ _)

above_grey : (samples : Component) (s : Square) → AreGrey samples → (i : ℕ) →
    IsGrey (above_of samples s i)
above_grey samples s grey i =
    none_or_grey (nat_eq s.y 0) (samples (s.x + i) (s.y - 1)) (grey _ _)

tabulate_grey : (n : ℕ) (f : ℕ → Option ℕ) → ((i : ℕ) → IsGrey (f i)) → All IsGrey (tabulate n f)
unfolding tabulate
tabulate_grey zero f grey = All-nil IsGrey
tabulate_grey (suc n) f grey =
    All-cons IsGrey (f 0) _ (grey 0) (tabulate_grey n (λ i. f (suc i)) (λ i. grey (suc i)))

neighbours_grey : (samples : Component) (s : Square) → AreGrey samples →
    All IsGrey (neighbours samples s)
neighbours_grey samples s grey =
    let n : ℕ = 2 * 2 ^ s.log2 in
    All-append IsGrey (tabulate (n + 1) (λ i. left_of samples s (n - i)))
    (tabulate n (above_of samples s))
    (tabulate_grey (n + 1) _ (λ i. left_grey samples s grey (n - i)))
    (tabulate_grey n _ (above_grey samples s grey))

length-neighbours : (samples : Component) (s : Square) →
    length (neighbours samples s) ≡ 4 * 2 ^ s.log2 + 1
length-neighbours samples s =
    let n : ℕ = 2 * 2 ^ s.log2 in
    omega (
      arith,
      length-append (tabulate (n + 1) (λ i. left_of samples s (n - i)))
          (tabulate n (above_of samples s)),
      length-tabulate (n + 1) (λ i. left_of samples s (n - i)),
      length-tabulate n (above_of samples s),
    )

first_grey : (line : List (Option ℕ)) → All IsGrey line → first_available line ≡ 128
first_grey [] grey = refl
first_grey (None ∷ line) grey = first_grey line (All-tail IsGrey None line grey)
first_grey (Some p ∷ line) grey = All-head IsGrey (Some p) line grey

filled_grey : (line : List (Option ℕ)) → All IsGrey line →
    filled_from 128 line ≡ replicate (length line) 128
filled_grey [] grey = refl
filled_grey (None ∷ line) grey =
    ap (λ t. 128 ∷ t) (filled_grey line (All-tail IsGrey None line grey))
filled_grey (Some p ∷ line) grey =
    ap (λ q. q ∷ filled_from q line) (All-head IsGrey (Some p) line grey)
    ∙ ap (λ t. 128 ∷ t) (filled_grey line (All-tail IsGrey (Some p) line grey))

substituted_grey : (line : List (Option ℕ)) → All IsGrey line →
    substituted line ≡ replicate (length line) 128
substituted_grey line grey =
    ap (λ q. filled_from q line) (first_grey line grey) ∙ filled_grey line grey

-- ---- blocks that have one number everywhere

tabulate_one : {A : Type 0} (n : ℕ) (f : ℕ → A) (a : A) → ((i : ℕ) → i < n → f i ≡ a) →
    tabulate n f ≡ replicate n a
unfolding tabulate
tabulate_one zero f a one = refl
tabulate_one (suc n) f a one =
    ap₂ (λ x xs. x ∷ xs) (one 0 (omega arith))
    (tabulate_one n (λ i. f (suc i)) a (λ i below. one (suc i) (omega arith)))

rows_of_one : {A : Type 0} (k n : ℕ) (a : A) →
    flat_map (λ row. row) (replicate k (replicate n a)) ≡ replicate (k * n) a
rows_of_one zero n a =
    let none : 0 ≡ 0 * n = omega arith in
    ap (λ m. replicate m a) none
rows_of_one (suc k) n a =
    ap (λ t. replicate n a ++ t) (rows_of_one k n a)
    ∙ replicate-append-replicate n (k * n) a
    ∙ ap (λ m. replicate m a) (omega arith)

square_of_one : {A : Type 0} (log2 : ℕ) (f : ℕ → ℕ → A) (a : A) →
    ((x y : ℕ) → x < 2 ^ log2 → y < 2 ^ log2 → f x y ≡ a) →
    square log2 f ≡ replicate (2 ^ log2 * 2 ^ log2) a
square_of_one log2 f a one =
    ap (flat_map (λ row. row))
    (tabulate_one (2 ^ log2) _ (replicate (2 ^ log2) a)
    (λ y high. tabulate_one (2 ^ log2) (λ x. f x y) a (λ x wide. one x y wide high)))
    ∙ rows_of_one (2 ^ log2) (2 ^ log2) a

-- ---- DC prediction from neighbours that are all 128

abbrev greys : ℕ → List ℕ
greys log2 = replicate (4 * 2 ^ log2 + 1) 128

total_one : (n c : ℕ) (f : ℕ → ℕ) → ((i : ℕ) → i < n → f i ≡ c) → total_of n f ≡ n * c
unfolding total_of
total_one zero c f one = omega arith
total_one (suc n) c f one =
    omega (arith, total_one n c f (λ i below. one i (omega (arith, below))), one n (omega arith))

left_is : (log2 i : ℕ) → left log2 (greys log2) i ≡ 128
left_is log2 i =
    get_or-replicate (4 * 2 ^ log2 + 1) (2 * 2 ^ log2 - i) 128 0 (omega arith)

above_is : (log2 i : ℕ) → i ≤ 2 ^ log2 → above log2 (greys log2) i ≡ 128
above_is log2 i below =
    get_or-replicate (4 * 2 ^ log2 + 1) (2 * 2 ^ log2 + i) 128 0 (omega (arith, below))

halved : (n : ℕ) → 0 < n → (n * 256 + n) / (n * 2) ≡ 128
halved n some =
    let parts : n * 256 + n ≡ 128 * (n * 2) + n = omega arith in
    ap (λ m. m / (n * 2)) parts ∙ div-mul-add 128 (n * 2) n (omega (arith, some))

dcVal_is : (log2 : ℕ) → dcVal log2 (greys log2) ≡ 128
dcVal_is log2 =
    let next : log2 + 1 ≡ suc log2 = omega arith in
    ap₂ (λ total double. (total + 2 ^ log2) / double)
    (total_one (2 ^ log2) 256 _ (λ i below.
    omega (arith, left_is log2 (i + 1), above_is log2 (i + 1) (omega (arith, below)))))
    (ap (λ e. 2 ^ e) next ∙ pow-suc 2 log2)
    ∙ halved (2 ^ log2) (omega (arith, pow_pos log2))

edged_is : (corner top side : Bool) (value first above_first above left : ℕ) →
    value ≡ 128 → first ≡ 128 → above_first ≡ 128 → above ≡ 128 → left ≡ 128 →
    cond corner ((first + 2 * value + above_first + 2) / 4)
    (cond top ((above + 3 * value + 2) / 4) (cond side ((left + 3 * value + 2) / 4) value)) ≡ 128
edged_is true top side value first above_first above left e f g h k = omega (arith, e, f, g)
edged_is false true side value first above_first above left e f g h k = omega (arith, e, h)
edged_is false false true value first above_first above left e f g h k = omega (arith, e, k)
edged_is false false false value first above_first above left e f g h k = e

either_is : (test : Bool) (a b : ℕ) → a ≡ 128 → b ≡ 128 → cond test a b ≡ 128
either_is true a b e f = e
either_is false a b e f = f

dc_is : (log2 : ℕ) (is_luma : Bool) (x y : ℕ) → x < 2 ^ log2 →
    by_mode log2 1 is_luma (greys log2) x y ≡ 128
dc_is log2 is_luma x y wide =
    let value = dcVal_is log2 in
    either_is (is_luma && nat_lt log2 5) _ _
    (edged_is (nat_eq x 0 && nat_eq y 0) (nat_eq y 0) (nat_eq x 0) _ _ _ _ _ value
    (left_is log2 1) (above_is log2 1 (omega (arith, wide)))
    (above_is log2 (x + 1) (omega (arith, wide))) (left_is log2 (y + 1)))
    value

third_off : (a b c : Bool) → a && b && false && c ≡ false
third_off true true c = refl
third_off true false c = refl
third_off false b c = refl

predicted_is : (log2 : ℕ) (is_luma : Bool) →
    predicted log2 1 is_luma (greys log2) ≡ replicate (2 ^ log2 * 2 ^ log2) 128
unfolding predicted
predicted_is log2 is_luma =
    let off : is_smoothed log2 1 is_luma ≡ false = third_off is_luma (nat_le 3 log2) _ in
    let line : filtered log2 1 is_luma (greys log2) ≡ greys log2 = rw off refl in
    ap (λ l. square log2 (by_mode log2 1 is_luma l)) line
    ∙ square_of_one log2 (by_mode log2 1 is_luma (greys log2)) 128
    (λ x y wide high. dc_is log2 is_luma x y wide)

-- ---- the residual of levels that are all 0

shifted_away : (k m s : ℕ) → m < 2 ^ s → int_shr (pos 0 *ℤ pos k +ℤ pos m) s ≡ pos 0
shifted_away k m s small =
    let alone : 0 * k + m ≡ 0 * 2 ^ s + m = omega arith in
    ap pos (ap (λ n. n / 2 ^ s) alone ∙ div-mul-add 0 (2 ^ s) m small)

scaled_is : (log2 qp : ℕ) → scaled log2 qp (pos 0) ≡ pos 0
scaled_is log2 qp =
    let below : log2 + 3 - 1 ≡ log2 + 2 = omega arith in
    let half : 2 ^ (log2 + 3 - 1) ≡ 2 ^ (log2 + 2) = ap (λ e. 2 ^ e) below in
    let next : log2 + 3 ≡ suc (log2 + 2) = omega arith in
    let whole : 2 ^ (log2 + 3) ≡ 2 ^ suc (log2 + 2) = ap (λ e. 2 ^ e) next in
    ap clip16
    (shifted_away (16 * levelScale qp * 2 ^ (qp / 6)) (2 ^ (log2 + 3 - 1)) (log2 + 3)
    (omega (arith, half, whole, pow-suc 2 (log2 + 2), pow_pos (log2 + 2))))

-- a function that keeps 0, of such levels
level_is : (f : ℤ → ℤ) → f (pos 0) ≡ pos 0 → (levels : List ℤ) →
    any_significant levels ≡ false → (i : ℕ) → slice_index_or (map f levels) i (pos 0) ≡ pos 0
level_is f kept [] none i = refl
level_is f kept (level ∷ levels) none zero =
    let parts = or_parts (is_significant level) (any_significant levels) none in
    ap f (sym (insignificant level parts.0)) ∙ kept
level_is f kept (level ∷ levels) none (suc i) =
    let parts = or_parts (is_significant level) (any_significant levels) none in
    level_is f kept levels parts.1 i

sum_is : (n : ℕ) (weight coefficient : ℕ → ℤ) → ((i : ℕ) → coefficient i ≡ pos 0) →
    sum_of n (λ i. weight i *ℤ coefficient i) ≡ pos 0
unfolding sum_of
sum_is zero weight coefficient none = refl
sum_is (suc n) weight coefficient none =
    ap₂ (λ a b. a +ℤ b) (sum_is n weight coefficient none)
    (ap (λ c. weight n *ℤ c) (none n) ∙ *ℤ-zero (weight n))

column_is : (log2 : ℕ) (coefficient : ℕ → ℕ → ℤ) → ((x y : ℕ) → coefficient x y ≡ pos 0) →
    (x y : ℕ) → column_sample log2 coefficient x y ≡ pos 0
column_is log2 coefficient none x y =
    ap (λ sum. clip16 (int_shr (sum +ℤ pos 64) 7))
    (sum_is (2 ^ log2) (λ v. transMatrix log2 v y) (coefficient x) (none x))

inverse_is : (log2 : ℕ) (coefficient : ℕ → ℕ → ℤ) → ((x y : ℕ) → coefficient x y ≡ pos 0) →
    (x y : ℕ) → inverse_sample log2 coefficient x y ≡ pos 0
inverse_is log2 coefficient none x y =
    ap (λ sum. int_shr (sum +ℤ pos 2048) 12)
    (sum_is (2 ^ log2) (λ u. transMatrix log2 u x) (λ u. column_sample log2 coefficient u y)
    (λ u. column_is log2 coefficient none u y))

residual_is : (log2 qp : ℕ) (levels : List ℤ) → any_significant levels ≡ false →
    residual log2 qp levels ≡ replicate (2 ^ log2 * 2 ^ log2) (pos 0)
unfolding residual
residual_is log2 qp levels none =
    square_of_one log2 _ (pos 0) (λ x y wide high.
    inverse_is log2 (at_place log2 (map (scaled log2 qp) levels))
    (λ u v. level_is (scaled log2 qp) (scaled_is log2 qp) levels none (v * 2 ^ log2 + u)) x y)

-- ---- both together

sum_of_greys : (n : ℕ) →
    sum_of_lists (replicate n 128) (replicate n (pos 0)) ≡ replicate n 128
sum_of_greys zero = refl
sum_of_greys (suc n) = ap (λ t. 128 ∷ t) (sum_of_greys n)

in_or_before : (test : Bool) (p q : Option ℕ) → (test ≡ true → IsGrey p) → IsGrey q →
    IsGrey (cond test p q)
in_or_before true p q inside before = inside refl
in_or_before false p q inside before = before

put_grey : (samples : Component) (s : Square) → AreGrey samples →
    AreGrey (with_block samples s (replicate (2 ^ s.log2 * 2 ^ s.log2) 128))
put_grey samples s grey x y =
    in_or_before (is_in s x y) _ _
    (λ inside.
    let n : ℕ = 2 ^ s.log2 in
    let across : x - s.x < n = grind (arith, nat_tests, pow_pos s.log2) in
    let down : y - s.y < n = grind (arith, nat_tests, pow_pos s.log2) in
    get_or-replicate (n * n) ((y - s.y) * n + (x - s.x)) 128 0
    (mul-add-lt (y - s.y) n (x - s.x) n down across))
    (grey x y)

pub block_grey : (is_luma : Bool) (qp : ℕ) (s : Square) (levels : List ℤ) (samples : Component) →
    any_significant levels ≡ false → AreGrey samples →
    AreGrey (with_block samples s (sum_of_lists
    (predicted s.log2 1 is_luma (substituted (neighbours samples s)))
    (residual s.log2 qp levels)))
block_grey is_luma qp s levels samples none grey =
    let count : ℕ = 2 ^ s.log2 * 2 ^ s.log2 in
    let line : substituted (neighbours samples s) ≡ greys s.log2 =
    substituted_grey (neighbours samples s) (neighbours_grey samples s grey)
    ∙ ap (λ n. replicate n 128) (length-neighbours samples s) in
    let block : sum_of_lists (predicted s.log2 1 is_luma (substituted (neighbours samples s)))
    (residual s.log2 qp levels) ≡ replicate count 128 =
    ap₂ sum_of_lists
    (ap (predicted s.log2 1 is_luma) line ∙ predicted_is s.log2 is_luma)
    (residual_is s.log2 qp levels none)
    ∙ sum_of_greys count in
    subst (λ b. AreGrey (with_block samples s b)) (sym block) (put_grey samples s grey)
