use Rattle.std.proofs.Common.{◌-◌, ◌*◌}
use Rattle.hv_residual_model.specs.Binarization.{truncated_unary_bins}
use Rattle.hv_residual_model.specs.ResidualContexts.{last_prefix_at}
use Rattle.hv_residual.specs.Blocks.{block_of}
use Rattle.hv_residual.specs.Putting.{Going}
use Rattle.hv_residual.proofs.last.put_prefix.Given as goal

abbrev pub invariant-loop-bin : goal.invariant-loop-bin
invariant-loop-bin g l = Going g.B.BinSink.stands_for l.initial.sink l.sink
    (truncated_unary_bins (last_prefix_at l.table (block_of l.block)) (2 * l.block.log2 - 1 - l.bin) l.bin
    (l.prefix - l.bin))
    (truncated_unary_bins (last_prefix_at l.table (block_of l.block)) (2 * l.block.log2 - 1) 0 l.prefix)
