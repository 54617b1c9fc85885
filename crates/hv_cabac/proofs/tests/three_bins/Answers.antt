use Rattle.std.proofs.Common.{[], refl}
use Rattle.hv_tables.specs.declared.bins.SliceKind.TheVariants.{P}
use Rattle.hv_cabac.proofs.tests.three_bins.Goals as goal

pub returns : goal.returns
returns c =
    let put = c.put_three.ensures P c.args.qp [] c.new-encoder.ensures in
    c.finish.ensures P c.args.qp _ put refl
