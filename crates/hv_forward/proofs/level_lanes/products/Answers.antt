use Rattle.hv_forward.proofs.LevelLemmas.{products_are}
use Rattle.hv_forward.proofs.level_lanes.products.Goals as goal

pub returns : goal.returns
returns c = products_are 8 c.args.factor c.args.coefficients c.requires.eight c.requires.most c.requires.range
