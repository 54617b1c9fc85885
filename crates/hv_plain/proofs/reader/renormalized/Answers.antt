use Rattle.std.proofs.Common.{◌+◌, ◌*◌, ◌^◌, ◌≤◌, arith, mul-le-mul_right}
use Rattle.hv_plain.proofs.reader.renormalized.Goals as goal

pub read_bits-requires-clause-offset_most : goal.read_bits-requires-clause-offset_most
read_bits-requires-clause-offset_most c =
    let s = c.shift_of-shift.result in
    let m : (c.args.offset + 1) * 2 ^ s ≤ c.args.range * 2 ^ s =
    mul-le-mul_right (2 ^ s) (omega arith) in
    omega (arith, m, c.shift_of-shift.ensures.result_most_2)
