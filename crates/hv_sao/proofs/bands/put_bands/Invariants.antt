use Rattle.std.proofs.Common.{◌*◌}
use Rattle.hv_sao.specs.Planes.{IsWritten}
use Rattle.hv_sao.specs.Rows.{band_sample}
use Rattle.hv_sao.proofs.bands.put_bands.Given as goal

abbrev pub invariant-loop-g : goal.invariant-loop-g
invariant-loop-g l =
    IsWritten l.from l.y (16 * l.g) (band_sample l.fn.component l.position l.samples) l.fn.shown l.shown
