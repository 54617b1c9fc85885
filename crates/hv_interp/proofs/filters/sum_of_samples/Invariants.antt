use Rattle.std.proofs.Common.{◌≡◌, ◌*◌, ◌≤◌}
use Rattle.std.specs.Int.RustNames.{unsigned_abs}
use Rattle.hv_interp.specs.Filters.{strided_sum_of}
use Rattle.hv_interp.proofs.filters.sum_of_samples.Given as goal

abbrev pub invariant-loop-k : goal.invariant-loop-k
invariant-loop-k g l =
    (l.sum ≡ strided_sum_of l.k l.taps l.samples l.at l.step) ×
    (unsigned_abs l.sum ≤ 4194304 * l.k)
