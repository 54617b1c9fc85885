use Rattle.std.proofs.Common.{◌+◌}
use Rattle.hv_synth.specs.Generator.{cr}
use Rattle.hv_synth.specs.Runs.{IsRun}
use Rattle.hv_synth.proofs.samples.fill_cr.Given as goal

abbrev pub invariant-loop-k : goal.invariant-loop-k
invariant-loop-k l = IsRun l.k (λ k. cr l.fn.picture (l.fn.spot.column + k) l.fn.spot.row) l.into
