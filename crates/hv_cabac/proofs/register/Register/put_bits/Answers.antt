use Rattle.std.proofs.Common.{◌≡◌, true, not, arith, refl}
use Rattle.std.proofs.lemmas.Bool.{or_parts, not-false}
use Rattle.hv_cabac.proofs.register.Register.put_bits.Goals as goal

pub returns-else-bits-lt18 : goal.returns-else-bits-lt18
returns-else-bits-lt18 c fine =
    let out = c.put_byte-out in
    let parts = or_parts c.args.self.now.failed (not out.result) fine in
    let ok : out.result ≡ true = not-false out.result parts.1 in
    record {
      held = parts.0;
      range = refl;
      places = omega (arith, out.ensures.length ok);
      low = λ room. rw c.rest_of-self.ensures.value (out.ensures.same ok room);
    }
