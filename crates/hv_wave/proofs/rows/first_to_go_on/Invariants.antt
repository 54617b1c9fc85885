use Rattle.std.proofs.Common.{◌≡◌}
use Rattle.hv_wave.specs.Rows.{NoneGoesOnBefore, done_above}
use Rattle.hv_wave.proofs.rows.first_to_go_on.Given as goal

abbrev pub invariant-loop-index : goal.invariant-loop-index
invariant-loop-index l = record {
  before : NoneGoesOnBefore l.per_row l.rows l.index;
  above : l.above ≡ done_above l.per_row l.rows l.index;
}
