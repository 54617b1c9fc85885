use Rattle.std.proofs.Common.{◌≡◌, ℕ, ◌+◌, ◌-◌, ◌*◌, ◌%◌, ◌^◌, ◌<◌, List, length, get_or, subst, arith, length-set}
use Rattle.std.proofs.lemmas.Grind.{get_or_default_zero}
use Rattle.hv_stream_model.specs.Bits.{number_of}
use Rattle.hv_plain.proofs.NumberLemmas.{carried, bits_set, none_carried}
use Rattle.hv_plain.proofs.digits.add.Goals as goal

pub loop-at-preserved : goal.loop-at-preserved
loop-at-preserved c =
    let xs : List ℕ = c.loop-at.digits.items in
    let i : ℕ = c.loop-at.at - 1 in
    let there : i < length xs = omega (arith, c.loop-at.invariant.within) in
    let digit : c.from.result ≡ get_or xs i 0 =
    omega (arith, get_or_default_zero xs i c.index.result.now there) in
    let a : c.loop-at.at ≡ i + 1 = omega arith in
    let total : ℕ = number_of c.args.digits.now.items + c.args.value in
    let P : ℕ → Type 0 = λ x. number_of xs + c.loop-at.carry * 2 ^ (length xs - x) ≡ total in
    let e : P (i + 1) = subst P a c.loop-at.invariant.number in
    let s : ℕ = c.from.result + c.loop-at.carry in
    record {
      within = rw (length-set xs i (s % 2)) (omega (arith, there));
      small = omega (arith, digit, c.loop-at.invariant.small, c.loop-at.invariant.bits i 0 there);
      count = rw (length-set xs i (s % 2)) c.loop-at.invariant.count;
      bits = bits_set xs i s c.loop-at.invariant.bits;
      number = rw (length-set xs i (s % 2), digit) (carried xs i c.loop-at.carry total there e);
    }

pub returns-clause-number : goal.returns-clause-number
returns-clause-number c =
    let xs : List ℕ = c.loop-at.digits.items in
    none_carried xs c.loop-at.at c.loop-at.carry (number_of c.args.digits.now.items + c.args.value)
    (omega arith) c.loop-at.invariant.number (rw c.loop-at.invariant.count c.requires.fits)
