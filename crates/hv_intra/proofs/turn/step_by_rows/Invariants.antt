use Rattle.std.proofs.Common.{◌≡◌, ◌*◌, length, slice_index}
use Rattle.hv_intra.specs.Blocks.{IsRow}
use Rattle.hv_intra.specs.Turns.{lowest_to_top}
use Rattle.hv_intra.proofs.turn.step_by_rows.Given as goal

abbrev pub invariant-loop-i : goal.invariant-loop-i
invariant-loop-i l = record {
  woven : IsRow (16 * l.i) (λ j. slice_index l.from (lowest_to_top 64 j)) l.to;
  all : length l.to ≡ 64;
}
