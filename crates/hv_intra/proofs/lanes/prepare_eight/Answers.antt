use Rattle.hv_intra.specs.Lanes.{step}
use Rattle.hv_intra.proofs.LaneLemmas.{bases_written, zipped}
use Rattle.hv_intra.proofs.lanes.prepare_eight.Goals as goal

pub returns-clause-bases : goal.returns-clause-bases
returns-clause-bases c =
    bases_written 8 c.args.bases.now c.args.samples.now c.bases_of.result c.requires.samples c.requires.bases c.bases_of.ensures

pub returns-clause-steps : goal.returns-clause-steps
returns-clause-steps c =
    zipped 8 step c.args.steps.now c.args.samples.now c.args.next.now c.steps_of.result c.requires.samples c.requires.next c.requires.steps c.steps_of.ensures
