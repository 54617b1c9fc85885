use Rattle.std.proofs.Common.{◌≡◌, ℕ, ◌*◌, ◌<◌, get_or}
use Rattle.hv_kernel.specs.QuarterPicture.{quarter_sample}
use Rattle.hv_kernel.proofs.quarter.decimate.Given as goal

abbrev pub invariant-loop-group : goal.invariant-loop-group
invariant-loop-group l = (k : ℕ) → k < 4 * l.group → get_or l.out k 0 ≡ quarter_sample l.rows l.width k

abbrev pub invariant-loop-k : goal.invariant-loop-k
invariant-loop-k l = (j : ℕ) → j < l.k → get_or l.out j 0 ≡ quarter_sample l.rows l.width j
