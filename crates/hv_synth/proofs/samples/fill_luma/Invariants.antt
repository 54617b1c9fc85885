use Rattle.std.proofs.Common.{◌+◌}
use Rattle.hv_synth.specs.Generator.{luma}
use Rattle.hv_synth.specs.Runs.{IsRun}
use Rattle.hv_synth.proofs.samples.fill_luma.Given as goal

abbrev pub invariant-loop-k : goal.invariant-loop-k
invariant-loop-k l = IsRun l.k (λ k. luma l.seed l.fn.picture (l.fn.spot.column + k) l.fn.spot.row) l.into
