use Rattle.std.proofs.Common.{◌+◌, ◌*◌}
use Rattle.hv_mode.proofs.below.+splitting.Given as goal

abbrev pub decreases-decide_below : goal.decreases-decide_below
decreases-decide_below l = 2 * l.size + 1

abbrev pub decreases-try_split : goal.decreases-try_split
decreases-try_split l = 2 * l.size
