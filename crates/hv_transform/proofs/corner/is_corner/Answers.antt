use Rattle.std.proofs.Common.{sym, ◌∙◌}
use Rattle.std.proofs.Math.Nat.{mul-le-mul_right}
use Rattle.hv_transform.proofs.CornerLemmas.{short_of}
use Rattle.hv_transform.proofs.corner.is_corner.Goals as goal

pub returns-then-not-have_other_than_0-clause-rows : goal.returns-then-not-have_other_than_0-clause-rows
returns-then-not-have_other_than_0-clause-rows g c =
    λ narrow. short_of g.row.N c.args.block.now (mul-le-mul_right g.row.N c.requires.some) c.requires.whole (sym c.have_other_than_0.ensures ∙ c.if-not-have_other_than_0.true)
