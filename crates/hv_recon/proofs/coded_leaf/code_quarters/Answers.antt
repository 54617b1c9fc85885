use Rattle.std.proofs.Common.{subst, ◌∙◌}
use Rattle.hv_recon.specs.CodedUnits.{KeepsEarlier}
use Rattle.hv_recon.proofs.CodedLeafLemmas.{quarters_coded, same_unit, quarter_inside, second_ends, third_ends, fourth_ends}
use Rattle.hv_recon.proofs.coded_leaf.code_quarters.Goals as goal

pub code_unit-requires-2-clause-right : goal.code_unit-requires-2-clause-right
code_unit-requires-2-clause-right c =
    (quarter_inside c.args.place c.quarter-2.result.address _ c.quarter-2.result.size
    (second_ends c.args.place) c.quarter-2.ensures.address c.quarter-2.ensures.size
    c.requires.right c.requires.bottom).0

pub code_unit-requires-2-clause-bottom : goal.code_unit-requires-2-clause-bottom
code_unit-requires-2-clause-bottom c =
    (quarter_inside c.args.place c.quarter-2.result.address _ c.quarter-2.result.size
    (second_ends c.args.place) c.quarter-2.ensures.address c.quarter-2.ensures.size
    c.requires.right c.requires.bottom).1

pub code_unit-requires-3-clause-right : goal.code_unit-requires-3-clause-right
code_unit-requires-3-clause-right c =
    (quarter_inside c.args.place c.quarter-3.result.address _ c.quarter-3.result.size
    (third_ends c.args.place) c.quarter-3.ensures.address c.quarter-3.ensures.size
    c.requires.right c.requires.bottom).0

pub code_unit-requires-3-clause-bottom : goal.code_unit-requires-3-clause-bottom
code_unit-requires-3-clause-bottom c =
    (quarter_inside c.args.place c.quarter-3.result.address _ c.quarter-3.result.size
    (third_ends c.args.place) c.quarter-3.ensures.address c.quarter-3.ensures.size
    c.requires.right c.requires.bottom).1

pub code_unit-requires-4-clause-right : goal.code_unit-requires-4-clause-right
code_unit-requires-4-clause-right c =
    (quarter_inside c.args.place c.quarter-4.result.address _ c.quarter-4.result.size
    (fourth_ends c.args.place) c.quarter-4.ensures.address c.quarter-4.ensures.size
    c.requires.right c.requires.bottom).0

pub code_unit-requires-4-clause-bottom : goal.code_unit-requires-4-clause-bottom
code_unit-requires-4-clause-bottom c =
    (quarter_inside c.args.place c.quarter-4.result.address _ c.quarter-4.result.size
    (fourth_ends c.args.place) c.quarter-4.ensures.address c.quarter-4.ensures.size
    c.requires.right c.requires.bottom).1

pub returns : goal.returns
returns c =
    let a =
    same_unit c.args.input.now c.code_unit.new.plan c.args.place c.args.near.now _ _ _ _ _ _ _ _ _ _
    c.quarter.ensures.size c.quarter.ensures.address c.quarter.ensures.mode c.quarter.ensures.qp
    c.code_unit.ensures.coded in
    let b =
    same_unit c.args.input.now c.code_unit-2.new.plan c.args.place c.args.near.now _ _ _ _ _ _ _ _ _
    _ c.quarter-2.ensures.size c.quarter-2.ensures.address c.quarter-2.ensures.mode
    c.quarter-2.ensures.qp c.code_unit-2.ensures.coded in
    let d =
    same_unit c.args.input.now c.code_unit-3.new.plan c.args.place c.args.near.now _ _ _ _ _ _ _ _ _
    _ c.quarter-3.ensures.size c.quarter-3.ensures.address c.quarter-3.ensures.mode
    c.quarter-3.ensures.qp c.code_unit-3.ensures.coded in
    let e =
    same_unit c.args.input.now c.code_unit-4.new.plan c.args.place c.args.near.now _ _ _ _ _ _ _ _ _
    _ c.quarter-4.ensures.size c.quarter-4.ensures.address c.quarter-4.ensures.mode
    c.quarter-4.ensures.qp c.code_unit-4.ensures.coded in
    record {
      coded = quarters_coded c.args.input.now c.args.place c.args.near.now c.args.mode c.args.qp _ _ _
          _ _ _ _ _ _ a
          (subst (λ v. KeepsEarlier v c.code_unit.new.plan c.code_unit-2.new.plan)
          c.quarter-2.ensures.address c.code_unit-2.ensures.kept) b
          (subst (λ v. KeepsEarlier v c.code_unit-2.new.plan c.code_unit-3.new.plan)
          c.quarter-3.ensures.address c.code_unit-3.ensures.kept) d
          (subst (λ v. KeepsEarlier v c.code_unit-3.new.plan c.code_unit-4.new.plan)
          c.quarter-4.ensures.address c.code_unit-4.ensures.kept) e;
      units = c.code_unit-4.ensures.kept.units ∙ c.code_unit-3.ensures.kept.units ∙
          c.code_unit-2.ensures.kept.units ∙ c.code_unit.ensures.kept.units;
    }
