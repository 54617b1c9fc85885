use Rattle.std.proofs.Common.{◌+◌, ◌*◌}
use Rattle.hv_mode.proofs.node.+deciding.Given as goal

abbrev pub decreases-decide_node : goal.decreases-decide_node
decreases-decide_node l = 2 * l.size + 1

abbrev pub decreases-decide_split : goal.decreases-decide_split
decreases-decide_split l = 2 * l.size
