-- Columns in order: which coefficient stands where.
use Rattle.std.proofs.Common.{ap, arith, false, nat_lt, refl, subst, suc, sym, true, zero, ℕ, ℤ, ◌*◌, ◌+◌, ◌-◌, ◌<◌, ◌^◌, ◌∙◌, ◌≡◌}
use Rattle.std.proofs.lemmas.Nat.{pow-add}
use Rattle.hv_lanes.proofs.WeaveLemmas.{halves}
use Rattle.hv_transform.specs.Columns.{in_order}
use Rattle.hv_transform.proofs.ColumnHalfLemmas.{in_order_even, in_order_odd}
use Rattle.std.proofs.lemmas.Bool.Decides.{nat_tests}
use Rattle.hv_lanes.specs.Lanes.{place}

double : (d : ℕ) → 2 ^ (d + 3) ≡ 2 * 2 ^ (d + 2)
double d =
    let e : d + 3 ≡ d + 2 + 1 = omega arith in
    ap (λ n. 2 ^ n) e ∙ pow-add 2 (d + 2) 1 ∙ omega arith

-- what each number of a column keeps, the column in order keeps
pub in_order_all : (P : ℤ → Type 0) (d : ℕ) (c : ℕ → ℤ) → ((r : ℕ) → r < 2 ^ (d + 2) → P (c r)) → (k : ℕ) → k < 2 ^ (d + 2) → P (in_order d c k)
in_order_all P zero c h k below = h k below
in_order_all P (suc d) c h k below =
    halves (λ k. k < 2 ^ (suc d + 2) → P (in_order (suc d) c k))
    (λ j less.
    let size : 2 ^ (suc d + 2) ≡ 2 * 2 ^ (d + 2) = ap (λ n. 2 ^ n) (suc_add d) ∙ double d in
    subst P (sym (in_order_even d j c)) (in_order_all P d (λ r. c (2 ^ (d + 2) + r)) (λ r small. h (2 ^ (d + 2) + r) (omega (arith, size, small))) j (omega (arith, size, less))))
    (λ j less.
    let size : 2 ^ (suc d + 2) ≡ 2 * 2 ^ (d + 2) = ap (λ n. 2 ^ n) (suc_add d) ∙ double d in
    subst P (sym (in_order_odd d j c)) (h j (omega (arith, size, less))))
    k below
  where
    suc_add : (d : ℕ) → suc d + 2 ≡ d + 3
    suc_add d = omega arith

place_first : (d r : ℕ) → r < 2 ^ (d + 2) → place (suc d) r ≡ 2 * r + 1
place_first d r below =
    let t : nat_lt r (2 ^ (d + 2)) ≡ true = grind (arith, nat_tests, below) in
    rw t refl

place_other : (d r : ℕ) → place (suc d) (2 ^ (d + 2) + r) ≡ 2 * place d r
place_other d r =
    let t : nat_lt (2 ^ (d + 2) + r) (2 ^ (d + 2)) ≡ false = grind (arith, nat_tests) in
    let e : 2 ^ (d + 2) + r - 2 ^ (d + 2) ≡ r = omega arith in
    rw (t, e) refl

-- a column whose numbers stand in order
pub in_order_is : (d : ℕ) (c g : ℕ → ℤ) → ((r : ℕ) → r < 2 ^ (d + 2) → c r ≡ g (place d r)) → (k : ℕ) → k < 2 ^ (d + 2) → in_order d c k ≡ g k
in_order_is zero c g h k below = h k below
in_order_is (suc d) c g h k below =
    halves (λ k. k < 2 ^ (suc d + 2) → in_order (suc d) c k ≡ g k)
    (λ j less.
    let size : 2 ^ (suc d + 2) ≡ 2 * 2 ^ (d + 2) = ap (λ n. 2 ^ n) (suc_add d) ∙ double d in
    in_order_even d j c ∙
    in_order_is d (λ r. c (2 ^ (d + 2) + r)) (λ n. g (2 * n))
    (λ r small. h (2 ^ (d + 2) + r) (omega (arith, size, small)) ∙ ap g (place_other d r))
    j (omega (arith, size, less)))
    (λ j less.
    let size : 2 ^ (suc d + 2) ≡ 2 * 2 ^ (d + 2) = ap (λ n. 2 ^ n) (suc_add d) ∙ double d in
    let half : j < 2 ^ (d + 2) = omega (arith, size, less) in
    in_order_odd d j c ∙ h j (omega (arith, size, less)) ∙ ap g (place_first d j half))
    k below
  where
    suc_add : (d : ℕ) → suc d + 2 ≡ d + 3
    suc_add d = omega arith
