-- The encoder stands for the bins of all blocks, of which the last one ends the slice.
use Rattle.std.proofs.Common.{[], arith}
use Rattle.hv_tree_model.specs.Sites.{sites}
use Rattle.hv_unit_model.specs.Bins.{slice_bins}
use Rattle.hv_slice_model.specs.PlannedUnits.{planned_units}
use Rattle.hv_packet.specs.BlockPlans.{plans_of}
use Rattle.hv_packet.proofs.blocks.block_data.Goals as goal

pub returns : goal.returns
returns g c =
    let slice = c.args.slice in
    let places = sites slice.width slice.height in
    let units =
    planned_units places (plans_of (g.B.Blocks.blocks c.args.blocks.now)) c.args.sao.now in
    let least = slice.width_least in
    let least_too = slice.height_least in
    c.finish.ensures slice.kind slice.qp (slice_bins slice.kind slice.references places units)
    (c.put_blocks.ensures slice.kind slice.qp [] c.new-encoder.ensures)
    (c.slice_data_ends.ensures slice.kind slice.references places units
    (c.sites_are_there.ensures slice.width slice.height (omega (arith, least))
    (omega (arith, least_too)))
    c.requires.valid)
