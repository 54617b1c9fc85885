use Rattle.std.proofs.Common.{◌-◌, ◌*◌}
use Rattle.hv_deblock_model.specs.Deblocking.{pass}
use Rattle.hv_deblock.specs.Filled.{columns_of, rows_of, seen, samples_of, IsFilled}
use Rattle.hv_deblock.specs.Passes.{filter_of}
use Rattle.hv_deblock.proofs.passes.pass.Given as goal

abbrev pub invariant-loop-k : goal.invariant-loop-k
invariant-loop-k g l =
    IsFilled g.E.Edges.direction 4 (8 * l.k - 4) 0 (rows_of g.E.Edges.direction l.fn.plane)
    (pass (columns_of g.E.Edges.direction l.fn.plane) (filter_of l.component l.qp (seen g.E.Edges.direction (g.S.CodedSquares.coding l.squares)))
    (samples_of g.E.Edges.direction l.fn.plane)) l.fn.plane l.plane
