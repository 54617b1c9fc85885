use Rattle.std.proofs.Common.{ap, ◌∙◌, length}
use Rattle.hv_block.proofs.PlanLemmas.{IsWholePlan-written}
use Rattle.hv_block.proofs.plan.CtbPlan.set_leaf.Goals as goal

pub invariant_of-self : goal.invariant_of-self
invariant_of-self c =
    IsWholePlan-written c.self.inside.units.items c.fill_units.new.units
    c.self.inside.luma.items c.self.inside.cb.items c.self.inside.cr.items c.self.inside.units.len
    c.self.invariant c.self.inside.units.ok.0
    (c.fill_units.auto.units ∙ ap length c.deref_mut.ensures.value) c.fill_units.ensures.depths
