use Rattle.std.proofs.Common.{ap, ◌∙◌, List, ℤ}
use Rattle.hv_sample_model.specs.InverseTransform.{inverse_transformed, residual}
use Rattle.hv_recon_model.specs.Reconstruction.{sum_of}
use Rattle.hv_recon.proofs.transform_block.add_residual.Goals as goal

pub returns : goal.returns
unfolding residual
returns g c =
    c.add.ensures ∙
    ap (λ (l : List ℤ). sum_of c.args.out.now l)
    (c.inverse.ensures ∙
    ap (λ (l : List ℤ). inverse_transformed c.args.log2 l) c.scale.ensures.value)
