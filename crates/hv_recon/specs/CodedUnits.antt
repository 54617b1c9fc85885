-- A transform unit that is coded: the levels that its blocks are given, and its samples behind
-- them.
use Rattle.std.specs.Prelude.{◌≡◌, ℕ, ◌+◌, ◌*◌, ◌^◌, true, false, take}
use Rattle.hv_types.specs.declared.picture.Picture.{Picture}
use Rattle.hv_tables.specs.Quantisers.{chroma_qp}
use Rattle.hv_block.specs.declared.edges.Neighbours.{Neighbours}
use Rattle.hv_block.specs.Plans.{CtbPlan}
use Rattle.hv_block.specs.Samples.{Samples}
use Rattle.hv_tree_model.specs.Sites.{Site, column_of, row_of}
use Rattle.hv_tree_model.specs.Plans.{part}
use Rattle.hv_recon_model.specs.SeenSamples.{luma_spot, chroma_spot, seen_line}
use Rattle.hv_recon.specs.Coding.{input_block, coded_levels}
use Rattle.hv_recon.specs.Leaves.{luma_around, cb_around, cr_around}
use Rattle.hv_recon.specs.Units.{IsUnitPut}

-- The plan has the levels of the input's transform unit of this size at this address, each
-- component predicted from the old samples by this mode, and the new samples are the old ones with
-- those of the unit.
pub record IsUnitCoded
    (input : Picture) (plan : CtbPlan) (place : Site) (near : Neighbours)
    (size address mode qp : ℕ) (old new : Samples) : Type 0 where
  pub luma :
      part plan.luma (64 * address) (2 ^ (size + 3) * 2 ^ (size + 3)) ≡
      coded_levels (size + 3) mode true qp
      (input_block input.luma ((luma_spot place).left + 8 * column_of address)
      ((luma_spot place).top + 8 * row_of address) (size + 3))
      (seen_line (luma_spot place) (luma_around near) old.luma address (8 * column_of address)
      (8 * row_of address) (size + 3))
  pub cb :
      part plan.cb (16 * address) (2 ^ (size + 2) * 2 ^ (size + 2)) ≡
      coded_levels (size + 2) mode false (chroma_qp qp)
      (input_block input.cb ((chroma_spot place).left + 4 * column_of address)
      ((chroma_spot place).top + 4 * row_of address) (size + 2))
      (seen_line (chroma_spot place) (cb_around near) old.cb address (4 * column_of address)
      (4 * row_of address) (size + 2))
  pub cr :
      part plan.cr (16 * address) (2 ^ (size + 2) * 2 ^ (size + 2)) ≡
      coded_levels (size + 2) mode false (chroma_qp qp)
      (input_block input.cr ((chroma_spot place).left + 4 * column_of address)
      ((chroma_spot place).top + 4 * row_of address) (size + 2))
      (seen_line (chroma_spot place) (cr_around near) old.cr address (4 * column_of address)
      (4 * row_of address) (size + 2))
  pub put : IsUnitPut plan place near size address mode qp old new

-- The plan has the levels of the four transform units of a coding unit of 64x64, each coded behind
-- the one before.
pub record AreQuartersCoded
    (input : Picture) (plan : CtbPlan) (place : Site) (near : Neighbours) (mode qp : ℕ)
    (old new : Samples) : Type 0 where
  pub first : Samples
  pub second : Samples
  pub third : Samples
  pub first_coded : IsUnitCoded input plan place near 2 0 mode qp old first
  pub second_coded : IsUnitCoded input plan place near 2 16 mode qp first second
  pub third_coded : IsUnitCoded input plan place near 2 32 mode qp second third
  pub fourth_coded : IsUnitCoded input plan place near 2 48 mode qp third new

-- the units, and the levels before this address, are kept
pub record KeepsEarlier (address : ℕ) (old new : CtbPlan) : Type 0 where
  pub units : new.units ≡ old.units
  pub luma : take (64 * address) new.luma ≡ take (64 * address) old.luma
  pub cb : take (16 * address) new.cb ≡ take (16 * address) old.cb
  pub cr : take (16 * address) new.cr ≡ take (16 * address) old.cr
