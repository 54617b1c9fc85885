use Rattle.std.proofs.Common.{refl}
use Rattle.hv_intra.proofs.SmoothingLaneLemmas.{smoothed_lanes}
use Rattle.hv_intra.proofs.smoothing.smooth_sixteen.Goals as goal

pub returns : goal.returns
returns c =
    smoothed_lanes c.args.from c.args.line.now c.args.out.now _ _ _ c.weighted.result c.requires.from c.requires.inside c.requires.room
    refl refl refl c.weighted.ensures
