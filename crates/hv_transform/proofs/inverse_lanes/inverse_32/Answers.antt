use Rattle.std.proofs.Common.{◌∙◌, ap, arith}
use Rattle.hv_sample_model.specs.InverseTransform.{inverse_transformed}
use Rattle.hv_lanes.proofs.PartLemmas.{same_list}
use Rattle.hv_transform.proofs.inverse_lanes.inverse_32.Goals as goal

pub returns-then-is_corner : goal.returns-then-is_corner
returns-then-is_corner c =
    c.corner_32.ensures ∙ ap (inverse_transformed 5) (same_list c.args.coefficients.now c.narrow.new.out (omega arith) c.narrow.ensures)

pub returns-else-is_corner : goal.returns-else-is_corner
returns-else-is_corner c =
    c.whole_32.ensures ∙ ap (inverse_transformed 5) (same_list c.args.coefficients.now c.narrow.new.out (omega arith) c.narrow.ensures)
