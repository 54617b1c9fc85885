-- A transform unit of a coding tree block of the code, and its samples.
use Rattle.std.specs.Prelude.{ℕ, ◌+◌, ◌*◌, ◌^◌, Bool, true, false, List, ℤ}
use Rattle.hv_types.specs.declared.picture.Picture.{Picture}
use Rattle.hv_types.specs.Samples.{Plane}
use Rattle.hv_tables.specs.Quantisers.{chroma_qp}
use Rattle.hv_block.specs.declared.edges.Neighbours.{Neighbours}
use Rattle.hv_block.specs.Plans.{CtbPlan}
use Rattle.hv_block.specs.Samples.{Samples}
use Rattle.hv_plan.specs.declared.prediction.Mv.{Mv}
use Rattle.hv_inter_model.specs.Interpolation.{inter_predicted}
use Rattle.hv_sample_model.specs.InverseTransform.{residual}
use Rattle.hv_tree_model.specs.Sites.{Site, column_of, row_of}
use Rattle.hv_tree_model.specs.Plans.{part}
use Rattle.hv_recon_model.specs.Reconstruction.{sum_of}
use Rattle.hv_recon_model.specs.SeenSamples.{IsPut, luma_spot, chroma_spot, seen_line, seen_block}
use Rattle.hv_recon.specs.Leaves.{luma_around, cb_around, cr_around}

-- The new samples are the old ones with these blocks of luma, Cb and Cr in the places of the
-- transform unit of this size at this address.
pub record AreBlocksPut (block cb_block cr_block : List ℕ) (size address : ℕ) (old new : Samples) :
    Type 0 where
  pub luma :
      IsPut 64 (8 * column_of address) (8 * row_of address) (size + 3) block old.luma new.luma
  pub cb :
      IsPut 32 (4 * column_of address) (4 * row_of address) (size + 2) cb_block old.cb new.cb
  pub cr :
      IsPut 32 (4 * column_of address) (4 * row_of address) (size + 2) cr_block old.cr new.cr

-- the levels of such a unit in luma, and in chroma
abbrev pub luma_levels : CtbPlan → ℕ → ℕ → List ℤ
luma_levels plan size address =
    part plan.luma (64 * address) (2 ^ (size + 3) * 2 ^ (size + 3))

abbrev pub chroma_levels : List ℤ → ℕ → ℕ → List ℤ
chroma_levels levels size address =
    part levels (16 * address) (2 ^ (size + 2) * 2 ^ (size + 2))

-- ---- intra

-- each component is predicted from the old samples by this mode
abbrev pub IsUnitPut :
    CtbPlan → Site → Neighbours → ℕ → ℕ → ℕ → ℕ → Samples → Samples → Type 0
IsUnitPut plan place near size address mode qp old new =
    AreBlocksPut
    (seen_block (size + 3) mode true qp (luma_levels plan size address)
    (seen_line (luma_spot place) (luma_around near) old.luma address (8 * column_of address)
    (8 * row_of address) (size + 3)))
    (seen_block (size + 2) mode false (chroma_qp qp) (chroma_levels plan.cb size address)
    (seen_line (chroma_spot place) (cb_around near) old.cb address (4 * column_of address)
    (4 * row_of address) (size + 2)))
    (seen_block (size + 2) mode false (chroma_qp qp) (chroma_levels plan.cr size address)
    (seen_line (chroma_spot place) (cr_around near) old.cr address (4 * column_of address)
    (4 * row_of address) (size + 2)))
    size address old new

-- ---- inter

-- A block with these levels, by rows, and this quantiser, which this vector leads from column x of
-- row y of a component to its prediction.
abbrev pub inter_block : ℕ → Bool → ℕ → List ℤ → Plane → Mv → ℕ → ℕ → List ℕ
inter_block log2 is_luma qp levels plane mv x y =
    sum_of (inter_predicted is_luma plane mv x y (2 ^ log2)) (residual log2 qp levels)

-- each component is predicted from this reference picture by this vector
abbrev pub IsInterUnitPut :
    CtbPlan → Site → ℕ → ℕ → Picture → Mv → ℕ → Samples → Samples → Type 0
IsInterUnitPut plan place size address reference mv qp old new =
    AreBlocksPut
    (inter_block (size + 3) true qp (luma_levels plan size address) reference.luma mv
    ((luma_spot place).left + 8 * column_of address) ((luma_spot place).top + 8 * row_of address))
    (inter_block (size + 2) false (chroma_qp qp) (chroma_levels plan.cb size address)
    reference.cb mv ((chroma_spot place).left + 4 * column_of address)
    ((chroma_spot place).top + 4 * row_of address))
    (inter_block (size + 2) false (chroma_qp qp) (chroma_levels plan.cr size address)
    reference.cr mv ((chroma_spot place).left + 4 * column_of address)
    ((chroma_spot place).top + 4 * row_of address))
    size address old new

-- ---- the four transform units of a coding unit of 64x64

-- each is put, by its address, behind the one before
pub record AreFourPut (IsOnePut : ℕ → Samples → Samples → Type 0) (old new : Samples) :
    Type 0 where
  pub first : Samples
  pub second : Samples
  pub third : Samples
  pub first_put : IsOnePut 0 old first
  pub second_put : IsOnePut 16 first second
  pub third_put : IsOnePut 32 second third
  pub fourth_put : IsOnePut 48 third new

abbrev pub AreQuartersPut :
    CtbPlan → Site → Neighbours → ℕ → ℕ → Samples → Samples → Type 0
AreQuartersPut plan place near mode qp old new =
    AreFourPut (λ address. IsUnitPut plan place near 2 address mode qp) old new

abbrev pub AreInterQuartersPut :
    CtbPlan → Site → Picture → Mv → ℕ → Samples → Samples → Type 0
AreInterQuartersPut plan place reference mv qp old new =
    AreFourPut (λ address. IsInterUnitPut plan place 2 address reference mv qp) old new
