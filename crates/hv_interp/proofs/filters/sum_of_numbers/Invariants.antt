use Rattle.std.proofs.Common.{◌≡◌, ◌*◌, ◌≤◌}
use Rattle.std.specs.Int.RustNames.{unsigned_abs}
use Rattle.hv_interp.specs.Filters.{strided_total_of}
use Rattle.hv_interp.proofs.filters.sum_of_numbers.Given as goal

abbrev pub invariant-loop-k : goal.invariant-loop-k
invariant-loop-k g l =
    (l.sum ≡ strided_total_of l.k l.taps l.numbers l.at l.step) ×
    (unsigned_abs l.sum ≤ 4194304 * l.k)
