use Rattle.std.proofs.Common.{ap, ◌∙◌, arith}
use lib.Seq.{take_all}
use mir.Syntax.{w16}
use Rattle.hv_lanes.proofs.LaneStepLemmas.{passed, kept}
use Rattle.hv_forward.proofs.row_lanes.eight_of.Goals as goal

pub returns : goal.returns
returns c = ap (passed w16) (take_all 8 c.args.numbers.now (omega (arith, c.requires.eight))) ∙ kept w16 c.args.numbers.now c.requires.numbers
