use Rattle.std.proofs.Common.{◌≡◌, ℕ, ◌+◌, ◌<◌, get_or}
use Rattle.hv_kernel.specs.QuarterPicture.{quarter_sample}
use Rattle.hv_kernel.proofs.quarter.put_four.Given as goal

abbrev pub invariant-loop-j : goal.invariant-loop-j
invariant-loop-j l = (k : ℕ) → k < l.at + l.j → get_or l.out k 0 ≡ quarter_sample l.rows l.width k
