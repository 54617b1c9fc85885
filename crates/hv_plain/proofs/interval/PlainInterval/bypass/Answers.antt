use Rattle.std.proofs.Common.{◌≡◌, ℕ, ◌+◌, ◌-◌, ◌*◌, ◌^◌, ◌≤◌, length, arith, subst, sym}
use Rattle.hv_stream_model.specs.Bits.{number_of}
use Rattle.hv_plain.proofs.NumberLemmas.{half_below, below_power}
use Rattle.hv_plain.proofs.interval.PlainInterval.bypass.Goals as goal

pub add-requires-clause-fits : goal.add-requires-clause-fits
add-requires-clause-fits c =
    let low = c.self.inside.low.items in
    let len : length c.double.new.digits.items ≡ length low + 1 = c.in_ok-double.ensures.count in
    let b = half_below (number_of low) (length low) c.self.inside.range c.skip_of.result
    c.self.invariant.0 c.self.invariant.4 c.skip_of.ensures.most in
    let P : ℕ → Type 0 =
    λ l. number_of c.double.new.digits.items + c.skip_of.result ≤ 510 * 2 ^ (l - 9) in
    let s : P (length low + 1) = omega (arith, b, c.in_ok-double.ensures.number) in
    below_power (number_of c.double.new.digits.items + c.skip_of.result)
    (length c.double.new.digits.items)
    (omega (arith, len, c.self.invariant.0)) (subst P (sym len) s)

pub invariant_of-result : goal.invariant_of-result
invariant_of-result c =
    let low = c.self.inside.low.items in
    let len : length c.add.new.digits.items ≡ length low + 1 =
    omega (arith, c.in_ok-double.ensures.count, c.add.ensures.count) in
    let b = half_below (number_of low) (length low) c.self.inside.range c.skip_of.result
    c.self.invariant.0 c.self.invariant.4 c.skip_of.ensures.most in
    let P : ℕ → Type 0 =
    λ l. number_of c.add.new.digits.items + c.self.inside.range ≤ 510 * 2 ^ (l - 9) in
    let s : P (length low + 1) =
    omega (arith, b, c.in_ok-double.ensures.number, c.add.ensures.number) in (
      omega (arith, len, c.self.invariant.0),
      c.self.invariant.1,
      c.self.invariant.2,
      c.add.ensures.bits,
      subst P (sym len) s,
    )
