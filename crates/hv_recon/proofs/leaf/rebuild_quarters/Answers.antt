use Rattle.hv_recon.proofs.PutUnitLemmas.{same_unit_put}
use Rattle.hv_recon.proofs.leaf.rebuild_quarters.Goals as goal

pub returns : goal.returns
returns c = record {
  first = c.rebuild_unit.new.out;
  second = c.rebuild_unit-2.new.out;
  third = c.rebuild_unit-3.new.out;
  first_put = same_unit_put c.args.plan.now c.args.place c.args.near.now
      _ 2 _ 0 _ _ _ _ _ _ c.quarter.ensures.size
      c.quarter.ensures.address c.quarter.ensures.mode c.quarter.ensures.qp c.rebuild_unit.ensures;
  second_put = same_unit_put c.args.plan.now c.args.place c.args.near.now
      _ 2 _ 16 _ _ _ _ _ _ c.quarter-2.ensures.size
      c.quarter-2.ensures.address c.quarter-2.ensures.mode c.quarter-2.ensures.qp
      c.rebuild_unit-2.ensures;
  third_put = same_unit_put c.args.plan.now c.args.place c.args.near.now
      _ 2 _ 32 _ _ _ _ _ _ c.quarter-3.ensures.size
      c.quarter-3.ensures.address c.quarter-3.ensures.mode c.quarter-3.ensures.qp
      c.rebuild_unit-3.ensures;
  fourth_put = same_unit_put c.args.plan.now c.args.place c.args.near.now
      _ 2 _ 48 _ _ _ _ _ _ c.quarter-4.ensures.size
      c.quarter-4.ensures.address c.quarter-4.ensures.mode c.quarter-4.ensures.qp
      c.rebuild_unit-4.ensures;
}
