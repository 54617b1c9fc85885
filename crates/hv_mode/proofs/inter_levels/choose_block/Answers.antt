use Rattle.std.proofs.Common.{ℕ, false, List, map, ap, ap₂, ◌∙◌, ℤ}
use Rattle.hv_inter_model.specs.Interpolation.{inter_predicted}
use Rattle.hv_sample_model.specs.Quantisation.{levels, transformed, quantised}
use Rattle.hv_mode_model.specs.ModeDecision.{differences}
use Rattle.hv_mode.proofs.inter_levels.choose_block.Goals as goal

pub returns-clause-value : goal.returns-clause-value
unfolding levels
returns-clause-value g c =
    let block = c.args.block in
    c.quantise.ensures.value ∙
    ap (λ (l : List ℤ). map (quantised block.log2 block.qp false) l)
    (c.forward.ensures.value ∙
    ap (λ (l : List ℤ). transformed block.log2 l)
    (c.subtract.ensures.value ∙
    ap₂ (λ (a b : List ℕ). differences a b) c.read_block.ensures
    (c.predict_inter.ensures ∙
    ap (λ (n : ℕ).
    inter_predicted block.luma c.args.reference.now block.mv block.column block.row n)
    c.side_of-side.ensures.value)))
