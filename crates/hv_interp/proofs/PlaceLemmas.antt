-- Places of a block of n columns, and what stands in them.
use Rattle.std.proofs.Common.{sym, drop, length-drop, length-take, ◌-◌, ◌≤◌, ◌≡◌, ℕ, ◌+◌, ◌*◌, ◌<◌, List, length, set, slice_index_or, ◌∙◌, ap₂, arith, below_more, ◌++◌, take, ⊎_elim, ap}
use Rattle.std.proofs.lemmas.Bool.{cases_lt}
use Rattle.std.proofs.lemmas.Slice.{take-put_mid}
use borrow.Rule.Slice.PartMut.{put_mid}
use Rattle.std.proofs.Math.Nat.{add-mul, mul-le-mul_right}
use Rattle.std.proofs.lemmas.Nat.{mod-mul-add, div-mul-add, mul-add-lt}
use Rattle.std.proofs.lemmas.List.{get_or-set_same, get_or-set_other, get_or-take, get_or-drop, get_or_append_left, get_or-append_right, length-take-le}
use Rattle.hv_interp.specs.Filters.{HasFirst, place_of}

-- column x of row y, in a window
pub place_is : (n stride y x : ℕ) → x < n → place_of n stride (y * n + x) ≡ y * stride + x
place_is n stride y x h = ap₂ (λ a b. a * stride + b) (div-mul-add y n x h) (mod-mul-add y n x h)

-- it lies inside of so many rows
pub place_inside : (n rows y x : ℕ) → y < rows → x < n → y * n + x < rows * n
place_inside n rows y x p q = omega (arith, mul-add-lt y n x rows p q)

-- one element more
pub HasFirst-set : {A : Type 0} (d : A) (at next : ℕ) (f : ℕ → A) (list : List A) (v : A) → at < length list →
    HasFirst d at f list → v ≡ f at → next ≡ at + 1 → HasFirst d next f (set list at v)
HasFirst-set {A} d at next f list v inside before e one k below =
    let Holds : ℕ → Type 0 = λ k. slice_index_or (set list at v) k d ≡ f k in
    below_more Holds at
    (λ k below. get_or-set_other list at k v d (λ same. absurd (omega (arith, same, below))) ∙ before k below)
    (get_or-set_same list at v d inside ∙ e)
    k (omega (arith, below, one))

-- elements written behind those that are right
pub HasFirst-put : {A : Type 0} (d : A) (at count next : ℕ) (f : ℕ → A) (list part : List A) → at ≤ length list →
    HasFirst d at f list → ((i : ℕ) → i < length part → slice_index_or part i d ≡ f (at + i)) →
    next ≡ at + length part → HasFirst d next f (put_mid at count list part)
HasFirst-put {A} d at count next f list part room before right end k below =
    let front : length (take at list) ≡ at = length-take-le at list room in
    let all : take next (put_mid at count list part) ≡ take at list ++ part =
    take-put_mid at count list part next end room in
    sym (get_or-take next (put_mid at count list part) k d below) ∙
    ap (λ l. slice_index_or l k d) all ∙
    ⊎_elim
    (λ inside. get_or_append_left (take at list) part d k (omega (arith, front, inside)) ∙
    get_or-take at list k d inside ∙ before k inside)
    (λ beyond. get_or-append_right (take at list) part at k d front beyond ∙
    right (k - at) (omega (arith, below, end, beyond)) ∙ ap f (omega (arith, beyond)))
    (cases_lt k at)

-- a row of a window
abbrev pub row_part : {A : Type 0} → List A → ℕ → ℕ → List A
row_part {A} samples at n = take (at + n - at) (drop at samples)

pub length-row_part : (samples : List ℕ) (at n : ℕ) → at + n ≤ length samples → length (row_part samples at n) ≡ n
length-row_part samples at n room = length-take (at + n - at) (drop at samples) ∙ omega (arith, length-drop at samples, room)

-- some columns ahead of column x of row y
pub place_ahead : (n stride y x i : ℕ) → x + i < n → y * stride + x + i ≡ place_of n stride (y * n + x + i)
place_ahead n stride y x i below =
    let same : y * n + x + i ≡ y * n + (x + i) = omega arith in
    let here : y * stride + x + i ≡ y * stride + (x + i) = omega arith in
    here ∙ sym (ap (place_of n stride) same ∙ place_is n stride y (x + i) below)

-- so many samples of a row from column x on, copied behind those that are right
pub part_copied : (samples out part : List ℕ) (n stride y x count next : ℕ) → x + count ≤ n → y < n → length out ≡ n * n →
    y * stride + x + count ≤ length samples → part ≡ row_part samples (y * stride + x) count → next ≡ y * n + x + count →
    HasFirst 0 (y * n + x) (λ k. slice_index_or samples (place_of n stride k) 0) out →
    HasFirst 0 next (λ k. slice_index_or samples (place_of n stride k) 0) (put_mid (y * n + x) (y * n + x + count - (y * n + x)) out part)
part_copied samples out part n stride y x count next across down whole inside is end before =
    let from : ℕ = y * stride + x in
    let all : length part ≡ count = ap (λ l. length l) is ∙ length-row_part samples from count inside in
    let rows : y * n + n ≤ n * n = omega (arith, add-mul y 1 n, mul-le-mul_right n down) in
    HasFirst-put 0 (y * n + x) (y * n + x + count - (y * n + x)) next (λ k. slice_index_or samples (place_of n stride k) 0) out part
    (omega (arith, rows, whole, across)) before
    (λ i below.
    let low : i < count = omega (arith, below, all) in
    ap (λ l. slice_index_or l i 0) is ∙
    get_or-take (from + count - from) (drop from samples) i 0 (omega (arith, low)) ∙ get_or-drop from samples i 0 ∙
    ap (λ k. slice_index_or samples k 0) (place_ahead n stride y x i (omega (arith, low, across))))
    (omega (arith, end, all))
