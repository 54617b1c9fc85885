use Rattle.std.proofs.Common.{◌+◌, ◌*◌, ◌/◌, slice_index_or}
use Rattle.hv_interp.specs.Filters.{HasFirst, place_of}
use Rattle.hv_interp.proofs.filters.copy_block.Given as goal

abbrev pub invariant-loop-y : goal.invariant-loop-y
invariant-loop-y l = HasFirst 0 (l.y * l.size) (λ k. slice_index_or l.samples (place_of l.size l.stride k) 0) l.out

abbrev pub invariant-loop-g : goal.invariant-loop-g
invariant-loop-g l = HasFirst 0 (l.y * l.size + 32 * l.g) (λ k. slice_index_or l.samples (place_of l.size l.stride k) 0) l.out

abbrev pub invariant-loop-e : goal.invariant-loop-e
invariant-loop-e l = HasFirst 0 (l.y * l.size + (l.size / 32 * 32 + 8 * l.e)) (λ k. slice_index_or l.samples (place_of l.size l.stride k) 0) l.out

abbrev pub invariant-loop-r : goal.invariant-loop-r
invariant-loop-r l = HasFirst 0 (l.y * l.size + (l.size / 8 * 8 + l.r)) (λ k. slice_index_or l.samples (place_of l.size l.stride k) 0) l.out
