use Rattle.std.proofs.Common.{◌≡◌, length, take}
use Rattle.hv_lemmas.specs.Lists.{tabulate}
use Rattle.hv_block.specs.Edges.{unit_at}
use Rattle.hv_block.proofs.edges.right_units.Given as goal

abbrev pub invariant-loop-row : goal.invariant-loop-row
invariant-loop-row l =
    (length l.out ≡ 8) × (take l.row l.out ≡ tabulate l.row (λ row. unit_at l.units 7 row))
