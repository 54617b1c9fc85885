-- The highest bits of a word of 32 bits are a number of as many bits.
use Rattle.std.proofs.Common.{◌≡◌, ◌+◌, ◌-◌, ◌/◌, ◌^◌, ◌<◌, arith}
use lib.Pow.{shr_lt}
use Rattle.hv_speed.proofs.streams.field_of.Goals as goal

pub invariant_of-result : goal.invariant_of-result
invariant_of-result c =
    let bits = c.args.word / 134217728 + 1 in
    let whole : bits + (32 - bits) ≡ 32 = omega (arith, c.ranges.word.fits) in
    let fits : c.args.word < 2 ^ (bits + (32 - bits)) = rw whole c.ranges.word.fits in
    record { width = omega (arith, c.ranges.word.fits); fits = shr_lt bits (32 - bits) fits }
