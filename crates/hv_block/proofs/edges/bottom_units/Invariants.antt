use Rattle.std.proofs.Common.{◌≡◌, length, take}
use Rattle.hv_lemmas.specs.Lists.{tabulate}
use Rattle.hv_block.specs.Edges.{unit_at}
use Rattle.hv_block.proofs.edges.bottom_units.Given as goal

abbrev pub invariant-loop-column : goal.invariant-loop-column
invariant-loop-column l =
    (length l.out ≡ 8) ×
    (take l.column l.out ≡ tabulate l.column (λ column. unit_at l.units column 7))
