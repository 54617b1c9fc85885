use Rattle.std.proofs.Common.{pos, slice_index_or}
use Rattle.hv_sample_model.specs.InverseTransform.{scaled}
use Rattle.hv_lanes.specs.Passes.{HasFirst}
use Rattle.hv_transform.proofs.scaling.scale.Given as goal

abbrev pub invariant-loop-i : goal.invariant-loop-i
invariant-loop-i l = HasFirst l.i (λ k. scaled l.log2 l.qp (slice_index_or l.levels k (pos 0))) l.out
