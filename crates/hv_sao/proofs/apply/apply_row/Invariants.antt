use Rattle.std.proofs.Common.{◌*◌, min}
use Rattle.hv_sao.specs.Planes.{IsWritten, block_sample}
use Rattle.hv_sao.proofs.apply.apply_row.Given as goal

abbrev pub invariant-loop-column : goal.invariant-loop-column
invariant-loop-column l =
    IsWritten 0 l.y (min (l.column * l.side) l.width)
    (block_sample l.component l.sao l.first l.side l.deblocked l.y) l.fn.shown l.shown
