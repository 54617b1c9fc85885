use Rattle.std.proofs.Common.{◌≡◌, ◌+◌, ◌-◌, ◌*◌, ◌^◌, ◌<◌, ◌≤◌, length}
use Rattle.hv_stream_model.specs.Bits.{number_of}
use Rattle.hv_plain.proofs.NumberLemmas.{AllBits}
use Rattle.hv_plain.proofs.digits.add.Given as goal

abbrev pub invariant-loop-at : goal.invariant-loop-at
invariant-loop-at l = record {
  within : l.at ≤ length l.digits.items;
  small : l.carry < 2 ^ 20;
  count : length l.digits.items ≡ length l.fn.digits.items;
  bits : AllBits l.digits.items;
  number :
      number_of l.digits.items + l.carry * 2 ^ (length l.digits.items - l.at)
      ≡ number_of l.fn.digits.items + l.value;
}

abbrev pub decreases-loop-at : goal.decreases-loop-at
decreases-loop-at l = l.at
