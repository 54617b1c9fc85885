use Rattle.std.proofs.Common.{sym, ◌∙◌}
use Rattle.hv_recon.proofs.NoLevelLemmas.{kept_without_levels}
use Rattle.hv_recon.proofs.transform_block.add_levels.Goals as goal

pub returns-then-not-is_coded : goal.returns-then-not-is_coded
returns-then-not-is_coded c =
    sym
    (kept_without_levels c.args.log2 c.args.qp c.args.levels.now c.args.out.now c.requires.least
    c.requires.most (sym c.is_coded.ensures ∙ c.if-not-is_coded.true)
    (λ k. (c.type_inv.out k).fits) c.requires.room)
