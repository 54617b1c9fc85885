use Rattle.std.proofs.Common.{◌≡◌, ◌*◌, ◌%◌, ◌^◌, replicate}
use Rattle.hv_intra.specs.Blocks.{HasRows}
use Rattle.hv_intra.specs.References.{first, part, sample_between}
use Rattle.hv_intra.proofs.angular.fill_rows_in_lanes.Given as goal

abbrev pub invariant-loop-y : goal.invariant-loop-y
invariant-loop-y g l = record {
  ways : l.ways ≡ replicate 16 (l.y * (2048 * part l.mode.number 0) % 65536);
  rows : HasRows (2 ^ g.row.LOG2) l.y
      (λ x y. sample_between l.reference (first g.row.LOG2 l.mode.number y) (part l.mode.number y) x) l.out;
}
