use Rattle.std.proofs.Common.{◌+◌, ◌-◌, ◌≤◌, length}
use Rattle.hv_synth.specs.Runs.{IsRun, byte_of}
use Rattle.hv_synth.proofs.runs.fill.Given as goal

abbrev pub invariant-loop-done : goal.invariant-loop-done
invariant-loop-done l = (l.done ≤ length l.into) × IsRun l.done (λ k. byte_of l.settings (l.at + k)) l.into

abbrev pub decreases-loop-done : goal.decreases-loop-done
decreases-loop-done l = length l.initial.into - l.done
