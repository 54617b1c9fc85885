-- The blocks from this one on are left to put.
use Rattle.std.proofs.Common.{◌-◌}
use Rattle.hv_packet.proofs.PuttingLemmas.{Leaves}
use Rattle.hv_packet.specs.BlankBins.{blocks_bins}
use Rattle.hv_packet.proofs.blank.put_slice_data.Given as goal

abbrev pub invariant-loop-index : goal.invariant-loop-index
invariant-loop-index g l = Leaves g.B.BinSink.stands_for l.initial.sink l.sink
    (blocks_bins l.slice_type l.width l.height (l.count - l.index) l.index) (blocks_bins l.slice_type l.width l.height l.count 0)
