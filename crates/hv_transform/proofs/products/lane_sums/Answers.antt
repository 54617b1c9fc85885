use Rattle.std.proofs.Common.{sym, subst}
use Rattle.hv_lanes.specs.Lanes.{Numbers}
use Rattle.hv_transform.proofs.LaneProductLemmas.{lane_sums_are, numbers_of_row, numbers_of_next}
use Rattle.hv_transform.proofs.products.lane_sums.Goals as goal

pub quads-requires-clause-first : goal.quads-requires-clause-first
quads-requires-clause-first g c =
    subst Numbers (sym c.pair_of.ensures) (numbers_of_row c.args.rows.now c.args.p c.args.i c.requires.numbers)

pub quads-requires-clause-second : goal.quads-requires-clause-second
quads-requires-clause-second g c =
    subst Numbers (sym c.pair_of-2.ensures) (numbers_of_next c.args.rows.now c.args.p c.args.i c.requires.numbers)

pub returns : goal.returns
returns g c =
    lane_sums_are c.args.weights.now c.args.rows.now c.args.p c.args.i c.pair_of.result.now c.pair_of-2.result.now c.quads.result c.pair_of.ensures c.pair_of-2.ensures c.quads.ensures
