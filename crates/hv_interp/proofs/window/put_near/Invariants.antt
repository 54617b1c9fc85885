use Rattle.std.proofs.Common.{◌≡◌, length, pos, ◌+ℤ◌}
use Rattle.hv_types.specs.Samples.{sample_at}
use Rattle.hv_interp.specs.Filters.{HasFirst}
use Rattle.hv_interp.specs.Windows.{nearest_in}
use Rattle.hv_interp.proofs.window.put_near.Given as goal

abbrev pub invariant-loop-i : goal.invariant-loop-i
invariant-loop-i l =
    (length l.out ≡ length l.initial.out) ×
    HasFirst 0 l.i (λ i. sample_at l.reference (nearest_in l.reference.width (l.fn.x +ℤ pos i)) l.row) l.out
