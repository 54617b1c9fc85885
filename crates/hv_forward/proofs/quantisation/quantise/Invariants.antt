use Rattle.std.proofs.Common.{◌*◌, pos, slice_index_or}
use Rattle.hv_sample_model.specs.Quantisation.{quantised}
use Rattle.hv_lanes.specs.Passes.{HasFirst}
use Rattle.hv_forward.proofs.quantisation.quantise.Given as goal

abbrev pub invariant-loop-g : goal.invariant-loop-g
invariant-loop-g l =
    HasFirst (8 * l.g) (λ k. quantised l.log2 l.qp l.intra (slice_index_or l.coefficients k (pos 0))) l.out

abbrev pub invariant-loop-i : goal.invariant-loop-i
invariant-loop-i l = HasFirst l.i (λ k. quantised l.log2 l.qp l.intra (slice_index_or l.coefficients k (pos 0))) l.out
