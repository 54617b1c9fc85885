use Rattle.std.proofs.Common.{◌/◌, ◌+◌, ◌*◌}
use Rattle.hv_interp.specs.Filters.{HasFirst, filtered}
use Rattle.hv_interp.proofs.filters.filter_by_sixteens.Given as goal

abbrev pub invariant-loop-y : goal.invariant-loop-y
invariant-loop-y g l = HasFirst 0 (l.y * l.size) (filtered l.taps l.samples l.stride 1 l.size) l.out

abbrev pub invariant-loop-g : goal.invariant-loop-g
invariant-loop-g g l = HasFirst 0 (l.y * l.size + 16 * l.g) (filtered l.taps l.samples l.stride 1 l.size) l.out

abbrev pub invariant-loop-r : goal.invariant-loop-r
invariant-loop-r g l = HasFirst 0 (l.y * l.size + (l.size / 16 * 16 + l.r)) (filtered l.taps l.samples l.stride 1 l.size) l.out
