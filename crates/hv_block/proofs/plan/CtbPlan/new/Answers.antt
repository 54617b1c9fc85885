use Rattle.hv_block.proofs.PlanLemmas.{opened}
use Rattle.hv_block.proofs.plan.CtbPlan.new.Goals as goal

pub returns : goal.returns
returns c =
    opened _ _ _ _ (c.in_ok-units.ensures.items_if_clones_equal (λ y same. same))
    (c.in_ok-luma.ensures.items_if_clones_equal (λ y same. same))
    (c.in_ok-cb.ensures.items_if_clones_equal (λ y same. same))
    (c.in_ok-cr.ensures.items_if_clones_equal (λ y same. same))
