use Rattle.std.proofs.Common.{◌+◌, ◌-◌, ◌*◌, ◌≤◌}
use Rattle.hv_deblock_model.specs.Deblocking.{pass}
use Rattle.hv_deblock.specs.Filled.{columns_of, seen, samples_of, IsFilled}
use Rattle.hv_deblock.specs.Passes.{filter_of, IsCarried}
use Rattle.hv_deblock.proofs.passes.filter_edge.Given as goal

abbrev pub invariant-loop-four : goal.invariant-loop-four
invariant-loop-four g l =
    IsFilled g.E.Edges.direction (8 * l.k - 4) (8 * l.k + 4) 0 (4 * l.four)
    (pass (columns_of g.E.Edges.direction l.fn.plane) (filter_of l.component l.qp (seen g.E.Edges.direction (g.S.CodedSquares.coding l.squares)))
    (samples_of g.E.Edges.direction l.fn.plane)) l.fn.plane l.plane
    × IsCarried l.component (seen g.E.Edges.direction (g.S.CodedSquares.coding l.squares)) l.k l.four l.strength
    × (l.strength ≤ 2)
