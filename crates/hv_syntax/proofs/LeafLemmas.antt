-- Where the levels of coding units stand.
use Rattle.std.proofs.Common.{◌≡◌, ℕ, zero, suc, ◌+◌, ◌-◌, ◌*◌, ◌^◌, ◌<◌, ◌≤◌, refl, ap, subst, ◌∙◌, pow-suc, arith}
use Rattle.hv_tree_model.specs.Trees.{log2TrafoSize, transform_units}
use Rattle.hv_tree_model.specs.Sites.{squares}
use Rattle.hv_tree_model.specs.Plans.{Plan, transform_units_at}

double : (l : ℕ) → 3 ≤ l → 2 ^ l ≡ 2 ^ (l - 1) * 2
double l h =
    let e : l ≡ suc (l - 1) = omega (arith, h) in ap (λ (n : ℕ). 2 ^ n) e ∙ pow-suc 2 (l - 1)

chroma_room : (a h : ℕ) → 64 * a + h * 2 * (h * 2) ≤ 4096 → 16 * a + h * h ≤ 1024
chroma_room a h k = omega (arith, k)

pub chroma_fits : (a l : ℕ) → 3 ≤ l → 64 * a + 2 ^ l * 2 ^ l ≤ 4096 →
    16 * a + 2 ^ (l - 1) * 2 ^ (l - 1) ≤ 1024
chroma_fits a l h k =
    chroma_room a (2 ^ (l - 1))
    (subst (λ (n : ℕ). 64 * a + n * n ≤ 4096) (double l h) k)

pub luma_fits : (size a : ℕ) → size < 3 → a + squares size ≤ 64 →
    64 * a + 2 ^ (size + 3) * 2 ^ (size + 3) ≤ 4096
luma_fits zero a h k = omega (arith, k)
luma_fits (suc zero) a h k = omega (arith, k)
luma_fits (suc (suc zero)) a h k = omega (arith, k)
luma_fits (suc (suc (suc size))) a h k = absurd (omega (arith, h))

pub four_units : (p : Plan) (size a : ℕ) → 3 ≤ size → size ≤ 3 → a + squares size ≤ 64 →
    transform_units_at p 5 0 4 ≡ transform_units_at p (log2TrafoSize size) a (transform_units size)
four_units p size a h k l =
    let three : size ≡ 3 = omega (arith, h, k) in
    let room : a + squares 3 ≤ 64 = rw three at l in
    let none : a ≡ 0 = omega (arith, room) in
    rw (three, none) refl
