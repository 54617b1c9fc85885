use Rattle.std.proofs.Common.{◌≡◌, ◌+◌, ◌*◌, ◌^◌, length}
use Rattle.hv_stream_model.specs.Bits.{number_of}
use Rattle.hv_plain.proofs.NumberLemmas.{AllBits}
use Rattle.hv_plain.proofs.digits.double.Given as goal

abbrev pub invariant-loop-i : goal.invariant-loop-i
invariant-loop-i l = record {
  bits : AllBits l.digits.items;
  count : length l.digits.items ≡ length l.fn.digits.items + l.i;
  number : number_of l.digits.items ≡ number_of l.fn.digits.items * 2 ^ l.i;
}
