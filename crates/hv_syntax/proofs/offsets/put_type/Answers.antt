use Rattle.std.proofs.Common.{◌∷◌, [], true, false}
use Rattle.hv_tables.specs.declared.bins.CtxTable.TheVariants.{SaoType}
use Rattle.hv_residual_model.specs.UnitBins.{InBypass, unit_bin}
use Rattle.hv_residual_model.specs.Binarization.{truncated_unary_bins}
use Rattle.hv_unit_model.specs.Bins.{bin}
use Rattle.hv_residual.proofs.PuttingLemmas.{puts_both}
use Rattle.hv_syntax.proofs.offsets.put_type.Goals as goal

pub returns-in-Off : goal.returns-in-Off
unfolding truncated_unary_bins
returns-in-Off g c = rw c.in-Off.is c.put_bin.ensures

pub returns-in-Band : goal.returns-in-Band
unfolding truncated_unary_bins
returns-in-Band g c =
    rw c.in-Band.is (puts_both g.B.BinSink.stands_for _ c.put_bin-in-Band.new.sink _
    (bin SaoType 0 true ∷ []) (unit_bin InBypass false ∷ []) c.put_bin-in-Band.ensures
    c.bypass.ensures)

pub returns-in-Edge : goal.returns-in-Edge
unfolding truncated_unary_bins
returns-in-Edge g c =
    rw c.in-Edge.is (puts_both g.B.BinSink.stands_for _ c.put_bin-in-Edge.new.sink _
    (bin SaoType 0 true ∷ []) (unit_bin InBypass true ∷ []) c.put_bin-in-Edge.ensures
    c.bypass-in-Edge.ensures)
