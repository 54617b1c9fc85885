use Rattle.std.proofs.Common.{◌≡◌, true, arith, sym, ◌∙◌}
use Rattle.std.specs.Result.{is_ok}
use Rattle.hv_cabac.proofs.NumberLemmas.{lead_small, lead_room, carry_moves}
use Rattle.hv_cabac.proofs.register.put_byte.Goals as goal

pub put_carry-requires : goal.put_carry-requires
put_carry-requires c =
    let small = lead_small c.args.low c.args.bits c.requires.least c.requires.low_most in
    record { most = omega (arith, small) }

pub returns-clause-same : goal.returns-clause-same
returns-clause-same c ok room =
    let old = c.args.out.now.items in
    let e : is_ok c.push.result ≡ true = sym c.is_ok.ensures.value ∙ ok in
    let fits = lead_room old c.args.low c.args.bits c.requires.least room in
    carry_moves old c.put_carry.new.out.items c.push.new.self.items c.args.low c.args.bits c.requires.least
    (c.put_carry.ensures.more fits) (rw e at c.push.ensures.items)
