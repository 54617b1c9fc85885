use Rattle.std.proofs.Common.{◌≡◌, ◌<◌, ℕ, slice_index_or}
use Rattle.hv_sao.specs.Rows.{band_sample}
use Rattle.hv_sao.proofs.bands.fill_bands.Given as goal

abbrev pub invariant-loop-i : goal.invariant-loop-i
invariant-loop-i l = (k : ℕ) → k < l.i → slice_index_or l.out k 0 ≡ band_sample l.component l.position l.samples k
