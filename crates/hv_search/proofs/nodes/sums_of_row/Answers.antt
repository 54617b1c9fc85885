use Rattle.std.proofs.Common.{◌≡◌, ◌+◌, ◌*◌, ◌<◌, ◌≤◌, ℕ, get_or, arith, subst}
use mathlib.Core.Logic.{◌⊎◌, inl, inr}
use Rattle.std.proofs.lemmas.Bool.{cases_lt}
use Rattle.hv_search.specs.Nodes.{woven_sad, there_of}
use Rattle.hv_search.proofs.nodes.sums_of_row.Goals as goal

-- what holds below n and at n holds below n + 1
one_more : (P : ℕ → ℕ → Type 0) (n : ℕ) → ((p dx : ℕ) → p < n → dx < 17 → P p dx) → ((dx : ℕ) → dx < 17 → P n dx) → (p dx : ℕ) → p < n + 1 → dx < 17 → P p dx
one_more P n before last p dx h k = choose (cases_lt p n)
  where
    choose : (p < n) ⊎ (n ≤ p) → P p dx
    choose (inl less) = before p dx less k
    choose (inr more) = let e : n ≡ p = omega arith in subst (λ m. P m dx) e (last dx k)

pub loop-place-preserved : goal.loop-place-preserved
loop-place-preserved c =
    let inv = c.loop-dx.invariant in (
      one_more (λ p dx. get_or c.loop-dx.sums (64 * dx + p) 0 ≡ woven_sad c.args.packed.now (64 * p) c.args.window.now (there_of p dx c.args.dy)) c.loop-place.place inv.0 (λ dx h. inv.2 dx (omega (arith, c.loop-dx-test.false))),
      one_more (λ p dx. get_or c.loop-dx.sums (64 * dx + p) 0 ≤ 16320) c.loop-place.place inv.1 (λ dx h. inv.3 dx (omega (arith, c.loop-dx-test.false))),
    )
