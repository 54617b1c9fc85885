use Rattle.std.proofs.Common.{map, take}
use mir.Val.{of_z}
use mir.Syntax.{w32}
use Rattle.hv_lanes.proofs.LaneStepLemmas.{all_fit}
use Rattle.hv_transform.proofs.CornerLemmas.{narrowed_is}
use Rattle.hv_transform.proofs.corner.narrow_eight.Goals as goal

pub overflow_cast-out : goal.overflow_cast-out
overflow_cast-out c = all_fit 8 (map (of_z w32) (take 8 c.args.numbers.now))

pub returns : goal.returns
returns c = narrowed_is c.args.out.now c.args.numbers.now c.requires.eight c.requires.room c.requires.range
