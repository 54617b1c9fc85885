use Rattle.std.proofs.Common.{◌*◌}
use Rattle.hv_intra.specs.Blocks.{IsRow}
use Rattle.hv_intra.specs.Lanes.{base_at, step_from}
use Rattle.hv_intra.proofs.lanes.prepare.Given as goal

abbrev pub invariant-loop-g : goal.invariant-loop-g
invariant-loop-g l = record {
  bases : IsRow (8 * l.g) (base_at l.reference) l.bases;
  steps : IsRow (8 * l.g) (step_from l.reference) l.steps;
}
