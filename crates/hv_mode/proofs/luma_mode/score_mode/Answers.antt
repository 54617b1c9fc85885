use Rattle.std.proofs.Common.{arith}
use Rattle.hv_mode.proofs.ScoreLemmas.{samples_most}
use Rattle.hv_mode.proofs.luma_mode.score_mode.Goals as goal

pub distance-requires-clause-few : goal.distance-requires-clause-few
distance-requires-clause-few c =
    omega (arith, c.args.block.whole, samples_most c.args.block.log2 c.args.block.most)
