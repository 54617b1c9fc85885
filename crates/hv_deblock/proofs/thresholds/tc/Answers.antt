use Rattle.std.proofs.Common.{arith}
use Rattle.hv_deblock.proofs.ThresholdLemmas.{tc_most}
use Rattle.hv_deblock.proofs.thresholds.tc.Goals as goal

pub returns-clause-most : goal.returns-clause-most
returns-clause-most c = tc_most c.from.result (omega (arith, c.from.ensures, c.requires.qp, c.requires.most))
