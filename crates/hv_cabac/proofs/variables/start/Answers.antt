use Rattle.std.proofs.Common.{arith, ◌∙◌, ap₂}
use Rattle.std.specs.Prelude.{ℤ, pos, ◌+ℤ◌, ◌*ℤ◌}
use Rattle.std.specs.Int.{int_shr}
use Rattle.hv_cabac.proofs.StartLemmas.{start_is}
use Rattle.hv_cabac.proofs.variables.start.Goals as goal

pub returns : goal.returns
returns c =
    let slope = c.slope in
    let offset = c.offset in
    start_is slope.result c.from.result offset.result c.args.qp slope.ensures.most
    offset.ensures.most c.from.ensures (omega arith) ∙
    ap₂ (λ (s o : ℤ). int_shr (s *ℤ pos c.args.qp) 4 +ℤ o) slope.ensures.value
    offset.ensures.value
