use Rattle.hv_recon.proofs.CodedLeafLemmas.{second_ends, third_ends, fourth_ends, quarter_inside}
use Rattle.hv_recon.proofs.PutUnitLemmas.{same_inter_unit_put}
use Rattle.hv_recon.proofs.leaf.rebuild_inter_quarters.Goals as goal

pub rebuild_inter_unit-requires-2-clause-right : goal.rebuild_inter_unit-requires-2-clause-right
rebuild_inter_unit-requires-2-clause-right c =
    (quarter_inside c.args.place c.inter_quarter-2.result.address 16 c.inter_quarter-2.result.size
    (second_ends c.args.place) c.inter_quarter-2.ensures.address c.inter_quarter-2.ensures.size
    c.requires.right c.requires.bottom).0

pub rebuild_inter_unit-requires-2-clause-bottom : goal.rebuild_inter_unit-requires-2-clause-bottom
rebuild_inter_unit-requires-2-clause-bottom c =
    (quarter_inside c.args.place c.inter_quarter-2.result.address 16 c.inter_quarter-2.result.size
    (second_ends c.args.place) c.inter_quarter-2.ensures.address c.inter_quarter-2.ensures.size
    c.requires.right c.requires.bottom).1

pub rebuild_inter_unit-requires-3-clause-right : goal.rebuild_inter_unit-requires-3-clause-right
rebuild_inter_unit-requires-3-clause-right c =
    (quarter_inside c.args.place c.inter_quarter-3.result.address 32 c.inter_quarter-3.result.size
    (third_ends c.args.place) c.inter_quarter-3.ensures.address c.inter_quarter-3.ensures.size
    c.requires.right c.requires.bottom).0

pub rebuild_inter_unit-requires-3-clause-bottom : goal.rebuild_inter_unit-requires-3-clause-bottom
rebuild_inter_unit-requires-3-clause-bottom c =
    (quarter_inside c.args.place c.inter_quarter-3.result.address 32 c.inter_quarter-3.result.size
    (third_ends c.args.place) c.inter_quarter-3.ensures.address c.inter_quarter-3.ensures.size
    c.requires.right c.requires.bottom).1

pub rebuild_inter_unit-requires-4-clause-right : goal.rebuild_inter_unit-requires-4-clause-right
rebuild_inter_unit-requires-4-clause-right c =
    (quarter_inside c.args.place c.inter_quarter-4.result.address 48 c.inter_quarter-4.result.size
    (fourth_ends c.args.place) c.inter_quarter-4.ensures.address c.inter_quarter-4.ensures.size
    c.requires.right c.requires.bottom).0

pub rebuild_inter_unit-requires-4-clause-bottom : goal.rebuild_inter_unit-requires-4-clause-bottom
rebuild_inter_unit-requires-4-clause-bottom c =
    (quarter_inside c.args.place c.inter_quarter-4.result.address 48 c.inter_quarter-4.result.size
    (fourth_ends c.args.place) c.inter_quarter-4.ensures.address c.inter_quarter-4.ensures.size
    c.requires.right c.requires.bottom).1

pub returns : goal.returns
returns c = record {
  first = c.rebuild_inter_unit.new.out;
  second = c.rebuild_inter_unit-2.new.out;
  third = c.rebuild_inter_unit-3.new.out;
  first_put = same_inter_unit_put c.args.plan.now c.args.place c.args.reference.now
      _ 2 _ 0 _ _ _ _ _ _ c.inter_quarter.ensures.size
      c.inter_quarter.ensures.address c.inter_quarter.ensures.mv c.inter_quarter.ensures.qp
      c.rebuild_inter_unit.ensures;
  second_put = same_inter_unit_put c.args.plan.now c.args.place c.args.reference.now
      _ 2 _ 16 _ _ _ _ _ _ c.inter_quarter-2.ensures.size
      c.inter_quarter-2.ensures.address c.inter_quarter-2.ensures.mv c.inter_quarter-2.ensures.qp
      c.rebuild_inter_unit-2.ensures;
  third_put = same_inter_unit_put c.args.plan.now c.args.place c.args.reference.now
      _ 2 _ 32 _ _ _ _ _ _ c.inter_quarter-3.ensures.size
      c.inter_quarter-3.ensures.address c.inter_quarter-3.ensures.mv c.inter_quarter-3.ensures.qp
      c.rebuild_inter_unit-3.ensures;
  fourth_put = same_inter_unit_put c.args.plan.now c.args.place c.args.reference.now
      _ 2 _ 48 _ _ _ _ _ _ c.inter_quarter-4.ensures.size
      c.inter_quarter-4.ensures.address c.inter_quarter-4.ensures.mv c.inter_quarter-4.ensures.qp
      c.rebuild_inter_unit-4.ensures;
}
