use Rattle.std.proofs.Common.{◌+◌, ◌*◌, slice_index_or}
use Rattle.hv_interp.specs.Filters.{HasFirst, woven_place}
use Rattle.hv_interp.proofs.columns.weave_rows.Given as goal

abbrev pub invariant-loop-y : goal.invariant-loop-y
invariant-loop-y l = HasFirst 0 (l.y * (2 * l.size)) (λ k. slice_index_or l.samples (woven_place l.size l.stride k) 0) l.woven

abbrev pub invariant-loop-g : goal.invariant-loop-g
invariant-loop-g l = HasFirst 0 (l.y * (2 * l.size) + 32 * l.g) (λ k. slice_index_or l.samples (woven_place l.size l.stride k) 0) l.woven
