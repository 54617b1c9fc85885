use Rattle.std.proofs.Common.{◌≡◌, ◌++◌, length, take, drop}
use Rattle.hv_sample_model.specs.IntraPrediction.{filled_from, substituted}
use Rattle.hv_intra.proofs.line.Line.of.Given as goal

-- so many are filled, and the rest goes on from the last of them
abbrev pub invariant-loop-i : goal.invariant-loop-i
invariant-loop-i l = record {
  all : length l.samples ≡ 129;
  made : take l.i l.samples ++ filled_from l.before (drop l.i l.known) ≡ substituted l.known;
}
