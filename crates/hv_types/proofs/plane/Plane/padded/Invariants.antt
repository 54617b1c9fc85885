use Rattle.std.proofs.Common.{◌≡◌}
use Rattle.hv_types.proofs.SampleLemmas.{padded_rows}
use Rattle.hv_types.proofs.plane.Plane.padded.Given as goal

abbrev pub invariant-loop-y : goal.invariant-loop-y
invariant-loop-y l = l.padded.items ≡ padded_rows l.samples l.from.width l.from.height l.to.width
    l.y
