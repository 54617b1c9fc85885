use Rattle.std.proofs.Common.{ℕ, List, arith, ◌∷◌, [], length-append}
use Rattle.hv_stream_model.specs.Bits.{number_of}
use Rattle.hv_plain.proofs.NumberLemmas.{bits_push, power_more}
use Rattle.hv_plain.proofs.digits.double.Goals as goal

pub loop-i-preserved : goal.loop-i-preserved
loop-i-preserved c =
    let xs : List ℕ = c.loop-i.digits.items in
    record {
      bits = rw c.in_ok-push.ensures.items (bits_push xs c.loop-i.invariant.bits);
      count = let n = length-append xs (0 ∷ []) in
          rw c.in_ok-push.ensures.items (omega (arith, n, c.loop-i.invariant.count));
      number = rw c.in_ok-push.ensures.items
          (power_more xs (number_of c.args.digits.now.items) c.loop-i.i c.loop-i.invariant.number);
    }
