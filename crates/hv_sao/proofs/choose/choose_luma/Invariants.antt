use Rattle.std.proofs.Common.{◌++◌}
use Rattle.hv_lemmas.specs.Lists.{tabulate}
use Rattle.hv_plan.specs.declared.offsets.SaoKind.TheVariants.{Off, Band, Edge}
use Rattle.hv_filter_model.specs.OffsetDecision.{candidate}
use Rattle.hv_sao.specs.Decisions.{block_of}
use Rattle.hv_sao.specs.Prices.{luma_cost, IsBest}
use Rattle.hv_sao.proofs.choose.choose_luma.Given as goal

abbrev pub invariant-bands : goal.invariant-bands
invariant-bands l = let b = block_of l.block.deblocked.now l.block.input.now l.block.area in
    IsBest b (luma_cost l.qp b) (candidate b Off) (tabulate l.position (λ p. candidate b (Band p))) l.best

abbrev pub invariant-edges : goal.invariant-edges
invariant-edges l = let b = block_of l.block.deblocked.now l.block.input.now l.block.area in
    IsBest b (luma_cost l.qp b) (candidate b Off)
    (tabulate 29 (λ p. candidate b (Band p)) ++ tabulate l.class (λ k. candidate b (Edge k))) l.best
