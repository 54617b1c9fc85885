use Rattle.std.proofs.Common.{◌-◌, length, arith}
use Rattle.hv_intra.proofs.SmoothingLaneLemmas.{smoothed_parts}
use Rattle.hv_intra.proofs.smoothing.smooth.Goals as goal

pub returns : goal.returns
returns c =
    let last = length c.args.out.now - 1 in
    smoothed_parts c.loop-k.k last (last - (last - 16)) c.args.line.now c.loop-k.out c.smooth_sixteen-2.new.out c.requires.some c.requires.sixteens
    (omega arith) (omega arith) (omega arith) (omega arith) (omega arith) c.loop-k.invariant c.smooth_sixteen-2.ensures
