-- Square blocks, place by place.
use Rattle.std.proofs.Common.{List, ap, arith, get_or, length, length-append, pos, refl, suc, sym, zero, ℕ, ℤ, ◌%◌, ◌*◌, ◌+◌, ◌-◌, ◌/◌, ◌<◌, ◌^◌, ◌∙◌, ◌≡◌}
use Rattle.hv_lemmas.specs.Lists.{tabulate}
use Rattle.std.specs.List.{flat_map}
use Rattle.std.proofs.Math.Nat.{add-mul, div-lt_iff_lt-mul, mod-add-div'}
use Rattle.hv_lemmas.proofs.ListLemmas.{length-tabulate}
use Rattle.std.proofs.lemmas.List.{ext_get_or, get_or-append_right, get_or_append_left}
use Rattle.std.proofs.lemmas.Nat.{pow_pos}
use Rattle.hv_sample_model.specs.Blocks.{square}
use Rattle.hv_lanes.specs.Passes.{HasFirst}

get_or-tabulate : (n i : ℕ) (f : ℕ → ℤ) → i < n → get_or (tabulate n f) i (pos 0) ≡ f i
unfolding tabulate
get_or-tabulate zero i f below = absurd (omega arith)
get_or-tabulate (suc n) zero f below = refl
get_or-tabulate (suc n) (suc i) f below = get_or-tabulate n i (λ k. f (suc k)) (omega arith)

-- n columns and h rows
abbrev rows_of : ℕ → ℕ → (ℕ → ℕ → ℤ) → List ℤ
rows_of n h f = flat_map (λ row. row) (tabulate h (λ y. tabulate n (λ x. f x y)))

length-rows_of : (n h : ℕ) (f : ℕ → ℕ → ℤ) → length (rows_of n h f) ≡ h * n
unfolding tabulate
length-rows_of n zero f = omega arith
length-rows_of n (suc h) f =
    omega (arith, length-append (tabulate n (λ x. f x 0)) (rows_of n h (λ x y. f x (suc y))), length-tabulate n (λ x. f x 0), length-rows_of n h (λ x y. f x (suc y)), add-mul h 1 n)

get_or-rows_of : (n h x y i : ℕ) (f : ℕ → ℕ → ℤ) → x < n → y < h → i ≡ y * n + x → get_or (rows_of n h f) i (pos 0) ≡ f x y
unfolding tabulate
get_or-rows_of n zero x y i f across down at = absurd (omega arith)
get_or-rows_of n (suc h) x zero i f across down at =
    let here : i ≡ x = omega arith in
    let size : length (tabulate n (λ u. f u 0)) ≡ n = length-tabulate n (λ u. f u 0) in
    get_or_append_left (tabulate n (λ u. f u 0)) (rows_of n h (λ u v. f u (suc v))) (pos 0) i (omega arith)
    ∙ ap (λ k. get_or (tabulate n (λ u. f u 0)) k (pos 0)) here
    ∙ get_or-tabulate n x (λ u. f u 0) across
get_or-rows_of n (suc h) x (suc y) i f across down at =
    let size : length (tabulate n (λ u. f u 0)) ≡ n = length-tabulate n (λ u. f u 0) in
    get_or-append_right (tabulate n (λ u. f u 0)) (rows_of n h (λ u v. f u (suc v))) n i (pos 0) size (omega (arith, add-mul y 1 n))
    ∙ get_or-rows_of n h x y (i - n) (λ u v. f u (suc v)) across (omega arith) (omega (arith, add-mul y 1 n))

-- where a place lies
pub row_below : (n k : ℕ) → 0 < n → k < n * n → k / n < n
row_below n k some below = (div-lt_iff_lt-mul {k = n} {x = k} {y = n} some).1 below

pub column_below : (n k : ℕ) → 0 < n → k % n < n
column_below n k some = omega arith

-- a list that has the numbers of a square block is that block
pub square_is : (log2 : ℕ) (f : ℕ → ℕ → ℤ) (numbers : List ℤ) → length numbers ≡ 2 ^ log2 * 2 ^ log2 → HasFirst (2 ^ log2 * 2 ^ log2) (λ k. f (k % 2 ^ log2) (k / 2 ^ log2)) numbers → numbers ≡ square log2 f
square_is log2 f numbers whole each =
    let n : ℕ = 2 ^ log2 in
    let some : 0 < n = pow_pos log2 in
    ext_get_or (pos 0) numbers (rows_of n n f) (whole ∙ sym (length-rows_of n n f))
    (λ k below.
    let inside : k < n * n = omega (arith, whole) in
    each k inside ∙
    sym (get_or-rows_of n n (k % n) (k / n) k f (column_below n k some) (row_below n k some inside) (omega (arith, mod-add-div' k n))))
