use Rattle.std.proofs.Common.{sym, ◌∙◌}
use Rattle.hv_recon.proofs.NoLevelLemmas.{kept_without_levels}
use Rattle.hv_recon.proofs.transform_block.add_coded.Goals as goal

pub returns-else-coded : goal.returns-else-coded
returns-else-coded g c =
    sym
    (kept_without_levels c.args.log2 c.args.qp c.args.levels.now c.args.out.now c.requires.least
    c.requires.most (sym c.requires.coded ∙ c.if-coded.false)
    (λ k. (c.type_inv.out k).fits) (c.requires.room ∙ c.requires.side))
