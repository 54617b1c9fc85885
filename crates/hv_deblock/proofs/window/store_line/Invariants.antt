use Rattle.std.proofs.Common.{◌+◌, ◌%◌}
use Rattle.hv_deblock_model.specs.Deblocking.{line_sample}
use Rattle.hv_deblock.specs.Filled.{IsFilled}
use Rattle.hv_deblock.proofs.window.store_line.Given as goal

abbrev pub invariant-loop-i : goal.invariant-loop-i
invariant-loop-i g l =
    IsFilled g.E.Edges.direction l.left (l.left + l.i) l.y (l.y + 1) (λ a b. line_sample l.line ((a + 4) % 8)) l.fn.plane l.plane
