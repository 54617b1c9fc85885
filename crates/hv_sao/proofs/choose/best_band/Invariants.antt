use Rattle.std.proofs.Common.{◌+◌}
use Rattle.hv_lemmas.specs.Lists.{tabulate}
use Rattle.hv_plan.specs.declared.offsets.SaoKind.TheVariants.{Band}
use Rattle.hv_filter_model.specs.OffsetDecision.{candidate}
use Rattle.hv_sao.specs.Decisions.{block_of}
use Rattle.hv_sao.specs.Prices.{own_cost, IsBest}
use Rattle.hv_sao.proofs.choose.best_band.Given as goal

abbrev pub invariant-bands : goal.invariant-bands
invariant-bands l = let b = block_of l.block.deblocked.now l.block.input.now l.block.area in
    IsBest b (own_cost l.qp b) (candidate b (Band 0)) (tabulate l.i (λ i. candidate b (Band (i + 1)))) l.best
