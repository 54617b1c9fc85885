use Rattle.std.proofs.Common.{arith}
use Rattle.hv_mode.proofs.ScoreLemmas.{sad_most}
use Rattle.hv_mode.proofs.luma_mode.distance.Goals as goal

pub returns-clause-most : goal.returns-clause-most
returns-clause-most c =
    omega (
      arith,
      c.sad.ensures,
      sad_most c.args.samples.now c.args.predicted.now
          (λ k. (c.type_inv.samples k).fits) (λ k. (c.type_inv.predicted k).fits) c.requires.few,
    )
