use Rattle.std.proofs.Common.{◌≤◌, ◌<◌, ◌^◌, ◌-◌, ◌+◌}
use Rattle.hv_residual_model.specs.Binarization.{exp_golomb_bins}
use Rattle.hv_residual.specs.Putting.{Going}
use Rattle.hv_residual.proofs.binarization.put_exp_golomb.Given as goal

abbrev pub invariant-loop-rest : goal.invariant-loop-rest
invariant-loop-rest g l = record {
  least : l.k ≤ l.order;
  most : l.order < l.k + 20;
  small : l.rest + 2 ^ l.order < 2 ^ (l.k + 20);
  going : Going g.B.BinSink.stands_for l.initial.sink l.sink
      (exp_golomb_bins (l.k + 32 - l.order) l.order l.rest) (exp_golomb_bins 32 l.k l.value);
}

abbrev pub decreases-loop-rest : goal.decreases-loop-rest
decreases-loop-rest g l = l.rest
