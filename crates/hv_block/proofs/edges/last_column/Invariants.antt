use Rattle.std.proofs.Common.{◌≡◌, ◌+◌, ◌*◌, ◌-◌, length, take}
use Rattle.std.specs.Prelude.{slice_index}
use Rattle.hv_lemmas.specs.Lists.{tabulate}
use Rattle.hv_block.proofs.edges.last_column.Given as goal

abbrev pub invariant-loop-y : goal.invariant-loop-y
invariant-loop-y g l =
    (length l.out ≡ g.row.SIDE) ×
    (take l.y l.out ≡ tabulate l.y (λ y. slice_index l.samples (y * g.row.SIDE + (g.row.SIDE - 1))))
