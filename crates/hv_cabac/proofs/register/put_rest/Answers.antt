use Rattle.std.proofs.Common.{arith, refl}
use Rattle.hv_cabac.proofs.BoundLemmas.{rest_goes_on}
use Rattle.hv_cabac.proofs.register.put_rest.Goals as goal

pub loop-left-preserved : goal.loop-left-preserved
loop-left-preserved c =
    let l = c.loop-left in
    let out = c.if-not-put_byte-2.ensures in
    let rest = c.low_digits-rest-in-loop-left.ensures in
    let old = c.args.out.now.items in
    let new = c.put_byte-in-loop-left.new.out.items in
    record {
      few = omega arith;
      whole = omega arith;
      small = rest.most;
      places = omega (arith, out.length refl);
      same = λ room.
          rest_goes_on old l.out.items new c.args.bits l.left l.rest _ c.args.low l.invariant.places
          l.invariant.same (out.same refl) rest.value room;
    }
