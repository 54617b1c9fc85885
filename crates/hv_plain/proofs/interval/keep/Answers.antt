use Rattle.std.proofs.Common.{◌≡◌, ℕ, ◌+◌, ◌-◌, ◌*◌, ◌^◌, ◌≤◌, length, arith, subst, sym}
use Rattle.hv_stream_model.specs.Bits.{number_of}
use Rattle.hv_plain.proofs.NumberLemmas.{part_below, below_power}
use Rattle.hv_plain.proofs.interval.keep.Goals as goal

pub add-requires-clause-fits : goal.add-requires-clause-fits
add-requires-clause-fits c =
    let low = c.args.low.items in
    let t = c.shift_of-times.result in
    let len : length c.double.new.digits.items ≡ length low + t = c.in_ok-double.ensures.count in
    let b = part_below (number_of low) (length low) c.args.range c.args.skip c.args.width t
    c.requires.long c.requires.below c.requires.inside in
    let P : ℕ → Type 0 =
    λ l. number_of c.double.new.digits.items + c.doubled.result ≤ 510 * 2 ^ (l - 9) in
    let s : P (length low + t) =
    omega (arith, b, c.in_ok-double.ensures.number, c.doubled.ensures) in
    below_power (number_of c.double.new.digits.items + c.doubled.result)
    (length c.double.new.digits.items)
    (omega (arith, len, c.requires.long)) (subst P (sym len) s)

pub invariant_of-result : goal.invariant_of-result
invariant_of-result c =
    let low = c.args.low.items in
    let t = c.shift_of-times.result in
    let len : length c.add.new.digits.items ≡ length low + t =
    omega (arith, c.in_ok-double.ensures.count, c.add.ensures.count) in
    let b = part_below (number_of low) (length low) c.args.range c.args.skip c.args.width t
    c.requires.long c.requires.below c.requires.inside in
    let P : ℕ → Type 0 =
    λ l. number_of c.add.new.digits.items + c.doubled-2.result ≤ 510 * 2 ^ (l - 9) in
    let s : P (length low + t) =
    omega (arith, b, c.in_ok-double.ensures.number, c.add.ensures.number, c.doubled.ensures, c.doubled-2.ensures) in (
      omega (arith, len, c.requires.long),
      omega (arith, c.doubled-2.ensures, c.shift_of-times.ensures.wide),
      omega (arith, c.doubled-2.ensures, c.shift_of-times.ensures.result_most_2),
      c.add.ensures.bits,
      subst P (sym len) s,
    )
