use Rattle.std.proofs.Common.{pos, ◌+ℤ◌, ◌*◌, ◌%◌, ◌/◌}
use Rattle.hv_interp.specs.Filters.{HasFirst}
use Rattle.hv_interp.proofs.WindowLemmas.{nearest_sample}
use Rattle.hv_interp.proofs.window.copy_window.Given as goal

abbrev pub invariant-loop-j : goal.invariant-loop-j
invariant-loop-j l =
    HasFirst 0 (l.j * l.side) (λ k. nearest_sample l.reference (l.fn.x +ℤ pos (k % l.side)) (l.fn.y +ℤ pos (k / l.side))) l.window
