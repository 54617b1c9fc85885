use Rattle.std.proofs.Common.{All}
use Rattle.hv_filter_model.specs.SampleAdaptiveOffset.{IsValidParam}
use Rattle.hv_show.proofs.offsets.valid_offsets.Given as goal

abbrev pub invariant-loop-number : goal.invariant-loop-number
invariant-loop-number l = All IsValidParam l.offsets.items
