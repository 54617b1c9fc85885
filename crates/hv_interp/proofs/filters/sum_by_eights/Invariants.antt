use Rattle.std.proofs.Common.{◌/◌, ◌+◌, ◌*◌, pos}
use Rattle.hv_interp.specs.Filters.{HasFirst, place_of, strided_sum}
use Rattle.hv_interp.proofs.filters.sum_by_eights.Given as goal

abbrev pub invariant-loop-y : goal.invariant-loop-y
invariant-loop-y g l = HasFirst (pos 0) (l.y * l.size) (λ k. strided_sum l.taps l.samples (place_of l.size l.stride k) 1) l.sums

abbrev pub invariant-loop-g : goal.invariant-loop-g
invariant-loop-g g l = HasFirst (pos 0) (l.y * l.size + 8 * l.g) (λ k. strided_sum l.taps l.samples (place_of l.size l.stride k) 1) l.sums

abbrev pub invariant-loop-r : goal.invariant-loop-r
invariant-loop-r g l = HasFirst (pos 0) (l.y * l.size + (l.size / 8 * 8 + l.r)) (λ k. strided_sum l.taps l.samples (place_of l.size l.stride k) 1) l.sums
