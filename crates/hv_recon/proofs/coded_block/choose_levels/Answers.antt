use Rattle.std.proofs.Common.{ap, ◌∙◌, true, List, map, ℤ}
use Rattle.hv_sample_model.specs.Quantisation.{levels, transformed, quantised}
use Rattle.hv_recon.proofs.CodedBlockLemmas.{any_other_than_0}
use Rattle.hv_recon.proofs.coded_block.choose_levels.Goals as goal

pub returns-clause-value : goal.returns-clause-value
unfolding levels
returns-clause-value g c =
    c.quantise.ensures.value ∙
    ap (λ (l : List ℤ). map (quantised c.args.spot.log2 c.args.spot.qp true) l)
    (c.forward.ensures.value ∙
    ap (λ (l : List ℤ). transformed c.args.spot.log2 l) c.subtract.ensures.value)

pub returns-clause-some : goal.returns-clause-some
returns-clause-some g c = c.quantise.ensures.some ∙ any_other_than_0 c.quantise.new.out
