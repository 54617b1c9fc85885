use Rattle.hv_forward.proofs.PowerLemmas.{level_small}
use Rattle.hv_forward.proofs.quantisation.size_of_level.Goals as goal

pub returns-clause-most : goal.returns-clause-most
returns-clause-most c =
    level_small c.args.size c.args.factor c.args.offset c.args.shift c.requires.range c.requires.most c.requires.least c.requires.part
