-- A leaf of a coding tree block that is coded: an intra coding unit, its levels, and its samples.
use Rattle.std.specs.Prelude.{◌≡◌, ℕ, ◌-◌, ◌*◌, ◌^◌, ◌≤◌, take}
use Rattle.hv_types.specs.declared.picture.Picture.{Picture}
use Rattle.hv_block.specs.declared.edges.Neighbours.{Neighbours}
use Rattle.hv_block.specs.Plans.{CtbPlan, unit_of, with_units}
use Rattle.hv_block.specs.Samples.{Samples}
use Rattle.hv_plan.specs.declared.prediction.Pred.TheVariants.{Intra}
use Rattle.hv_tree_model.specs.Sites.{Site}
use Rattle.hv_recon.specs.CodedUnits.{IsUnitCoded, AreQuartersCoded}

-- The plan has the levels of the leaf, and the new samples are the old ones with those of the leaf:
-- it has one transform unit, and a leaf of 64x64 has four.
pub record IsLeafCoded
    (input : Picture) (plan : CtbPlan) (place : Site) (near : Neighbours)
    (size address mode qp : ℕ) (old new : Samples) : Type 0 where
  pub one : size ≤ 2 → IsUnitCoded input plan place near size address mode qp old new
  pub four : size ≡ 3 → AreQuartersCoded input plan place near mode qp old new

-- the squares of the leaf are those of one intra coding unit, and the levels before it are kept
pub record IsLeafSet (size address mode : ℕ) (old new : CtbPlan) : Type 0 where
  pub units :
      new.units ≡ with_units old.units address (4 ^ size) (unit_of (3 - size) (Intra mode))
  pub luma : take (64 * address) new.luma ≡ take (64 * address) old.luma
  pub cb : take (16 * address) new.cb ≡ take (16 * address) old.cb
  pub cr : take (16 * address) new.cr ≡ take (16 * address) old.cr
