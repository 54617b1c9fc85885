use Rattle.std.proofs.Common.{◌≡◌, ℕ, ◌-◌, ◌*◌, ◌%◌, ◌^◌, ◌≤◌, ◌∙◌, ap, arith}
use Rattle.std.proofs.Math.Nat.{mul-le-mul, mul-le-mul_right}
use Rattle.std.proofs.lemmas.Nat.{pow_pos}
use Rattle.hv_forward.proofs.PowerLemmas.{whole_step, steps_few}
use Rattle.hv_forward.proofs.quantisation.offset_of.Goals as goal

pub returns-clause-value : goal.returns-clause-value
returns-clause-value c =
    let step : ℕ = 2 ^ (c.args.shift - 9) in
    let small : c.offset_of_kind.result * step ≤ 44826624 = mul-le-mul c.offset_of_kind.ensures.most (steps_few c.args.shift c.requires.greatest) in
    let kept : c.offset_of_kind.result * step % 4294967296 ≡ c.offset_of_kind.result * step = omega (arith, small) in
    kept ∙ ap (λ a. a * step) c.offset_of_kind.ensures.value

pub returns-clause-part : goal.returns-clause-part
returns-clause-part c =
    let step : ℕ = 2 ^ (c.args.shift - 9) in
    let small : c.offset_of_kind.result * step ≤ 44826624 = mul-le-mul c.offset_of_kind.ensures.most (steps_few c.args.shift c.requires.greatest) in
    let kept : c.offset_of_kind.result * step % 4294967296 ≡ c.offset_of_kind.result * step = omega (arith, small) in
    let less : c.offset_of_kind.result * step ≤ 171 * step = mul-le-mul_right step c.offset_of_kind.ensures.most in
    omega (arith, kept, less, pow_pos (c.args.shift - 9), whole_step c.args.shift (omega arith))
