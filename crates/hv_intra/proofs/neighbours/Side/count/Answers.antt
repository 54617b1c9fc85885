use Rattle.hv_intra.proofs.SideLemmas.{side_some, side_few, side_shifted}
use Rattle.hv_intra.proofs.neighbours.Side.count.Goals as goal

pub returns-clause-some : goal.returns-clause-some
returns-clause-some c =
    rw (side_shifted c.args.self.log2 c.args.self.least c.args.self.most)
    (side_some c.args.self.log2 c.args.self.least c.args.self.most)

pub returns-clause-most : goal.returns-clause-most
returns-clause-most c =
    rw (side_shifted c.args.self.log2 c.args.self.least c.args.self.most)
    (side_few c.args.self.log2 c.args.self.least c.args.self.most)
