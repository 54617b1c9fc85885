-- Places of a block of n columns and rows.
use Rattle.std.proofs.Common.{List, arith, below_more, length, pos, set, slice_index_or, ℕ, ℤ, ◌%◌, ◌*◌, ◌+◌, ◌/◌, ◌<◌, ◌∙◌, ◌≡◌, ◌≤◌}
use Rattle.std.proofs.Math.Nat.{add-mul, mul-le-mul_right}
use Rattle.std.proofs.lemmas.Nat.{div-mul-add, mod-mul-add}
use Rattle.std.proofs.lemmas.List.{get_or-set_other, get_or-set_same}
use Rattle.hv_lanes.specs.Passes.{HasFirst}

pub row_end : (n y : ℕ) → y * n + n ≡ (y + 1) * n
row_end n y = omega (arith, add-mul y 1 n)

-- a place lies inside
pub place_inside : (n y x : ℕ) → y < n → x < n → y * n + x < n * n
place_inside n y x p q =
    let e : (y + 1) * n ≤ n * n = mul-le-mul_right n (omega arith) in
    omega (arith, row_end n y)

pub column_of_place : (n y x : ℕ) → x < n → (y * n + x) % n ≡ x
column_of_place n y x h = mod-mul-add y n x h

pub row_of_place : (n y x : ℕ) → x < n → (y * n + x) / n ≡ y
row_of_place n y x h = div-mul-add y n x h

-- one more number
pub HasFirst-set : (at : ℕ) (f : ℕ → ℤ) (numbers : List ℤ) (v : ℤ) → at < length numbers → HasFirst at f numbers → v ≡ f at → HasFirst (at + 1) f (set numbers at v)
HasFirst-set at f numbers v inside before e =
    let Holds : ℕ → Type 0 = λ k. slice_index_or (set numbers at v) k (pos 0) ≡ f k in
    below_more Holds at
    (λ k below. get_or-set_other numbers at k v (pos 0) (λ same. absurd (omega (arith, same))) ∙ before k below)
    (get_or-set_same numbers at v (pos 0) inside ∙ e)
