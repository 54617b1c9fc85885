use Rattle.std.proofs.Common.{map, arith, take}
use mir.Val.{of_z}
use mir.Syntax.{w16}
use Rattle.hv_forward.specs.Forward.{quarter_sum}
use Rattle.hv_lanes.proofs.LaneSumLemmas.{always}
use Rattle.hv_forward.proofs.RowLaneLemmas.{row_lane, four_lanes}
use Rattle.hv_forward.proofs.row_lanes.high_quads.Goals as goal

pub overflow_cast-m-2 : goal.overflow_cast-m-2
overflow_cast-m-2 c = (always _, (always _, (always _, (always _, (always _, (always _, (always _, (always _, tt))))))))

pub overflow_cast-m-4 : goal.overflow_cast-m-4
overflow_cast-m-4 c = (always _, (always _, (always _, (always _, (always _, (always _, (always _, (always _, tt))))))))

pub returns : goal.returns
returns c = λ most f few h.
    let xs = map (of_z w16) c.args.x in
    let ws = map (of_z w16) (take 16 c.args.weights.now) in
    let l0 = row_lane most 1 0 f c.args.x c.args.weights.now xs ws (omega arith) (omega arith) few (omega arith) c.requires.weights h in
    let l1 = row_lane most 1 1 f c.args.x c.args.weights.now xs ws (omega arith) (omega arith) few (omega arith) c.requires.weights h in
    let l2 = row_lane most 1 2 f c.args.x c.args.weights.now xs ws (omega arith) (omega arith) few (omega arith) c.requires.weights h in
    let l3 = row_lane most 1 3 f c.args.x c.args.weights.now xs ws (omega arith) (omega arith) few (omega arith) c.requires.weights h in
    four_lanes (quarter_sum c.args.weights.now f 1) _ _ _ _ l0 l1 l2 l3
