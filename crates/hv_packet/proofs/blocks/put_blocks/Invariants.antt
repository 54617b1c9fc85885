-- The blocks from this one on are left to put, and the plans before are whole.
use Rattle.std.proofs.Common.{◌-◌}
use Rattle.hv_packet.specs.BlockPlans.{plans_of, AreWhole}
use Rattle.hv_packet.proofs.PuttingLemmas.{Leaves}
use Rattle.hv_packet.proofs.PlannedLemmas.{bins_from}
use Rattle.hv_packet.proofs.blocks.put_blocks.Given as goal

abbrev pub invariant-loop-index : goal.invariant-loop-index
invariant-loop-index g l =
    AreWhole l.index (plans_of (g.B.Blocks.blocks l.blocks)) ×
    Leaves g.S.BinSink.stands_for l.initial.sink l.sink
    (bins_from l.slice.kind l.slice.references l.slice.width l.slice.height
    (plans_of (g.B.Blocks.blocks l.blocks)) l.sao (l.count - l.index) l.index)
    (bins_from l.slice.kind l.slice.references l.slice.width l.slice.height
    (plans_of (g.B.Blocks.blocks l.blocks)) l.sao l.count 0)
