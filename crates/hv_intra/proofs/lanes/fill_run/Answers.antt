use Rattle.hv_intra.specs.Lanes.{stepped}
use Rattle.hv_intra.proofs.LaneLemmas.{zipped}
use Rattle.hv_intra.proofs.lanes.fill_run.Goals as goal

pub returns : goal.returns
returns g c = λ w e.
    zipped g.row.N (stepped w) c.args.out.now c.args.bases.now c.args.steps.now c.between.result c.requires.bases c.requires.steps c.requires.room
    (c.between.ensures w e)
