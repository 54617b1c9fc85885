use Rattle.hv_intra.proofs.DcLemmas.{lower_row}
use Rattle.hv_intra.proofs.dc.fill_lower_row.Goals as goal

pub returns : goal.returns
returns g c =
    lower_row g.row.N c.args.edge c.args.value c.args.row.now c.requires.some c.requires.room
