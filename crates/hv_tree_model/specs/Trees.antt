-- What a coding tree unit is coded as, as a value (7.3.8): its sample adaptive offsets, and its
-- coding quadtree.
use Rattle.std.specs.Prelude.{ℕ, ◌+◌, ◌-◌, ◌*◌, ◌^◌, Bool, false, cond, nat_lt, ◌||◌, min, List, [], ◌∷◌, replicate, ℤ, pos}
use Rattle.hv_plan.specs.declared.offsets.SaoParam.{SaoParam}
use Rattle.hv_plan.specs.declared.prediction.Mv.{Mv}
use Rattle.hv_plan.specs.Levels.{any_significant}

-- what is coded of how a unit is predicted from another picture (7.3.8.6): its vector isn't
pub record Motion : Type 0 where
  pub ref_idx_l0 : ℕ
  pub mvp_l0_flag : ℕ
  pub MvdL0 : Mv

-- how a coding unit is predicted, as one prediction unit (CuPredMode, PART_2Nx2N)
pub data Prediction : Type 0 where
  -- IntraPredModeY; that of chroma is the same
  Intra : ℕ → Prediction
  Inter : Motion → Prediction

-- TransCoeffLevel of a transform unit (7.3.8.10), each by rows
pub record TransformUnit : Type 0 where
  pub luma : List ℤ
  pub cb : List ℤ
  pub cr : List ℤ

-- Nothing is coded of a node whose upper left corner lies outside the picture. A leaf is a coding
-- unit, with its transform units: those of 64x64 have four of 32x32, and others have one.
pub data Tree : Type 0 where
  Leaf : Prediction → List TransformUnit → Tree
  -- upper left, upper right, lower left, lower right
  Split : Tree → Tree → Tree → Tree → Tree
  Outside : Tree

pub record CodingTreeUnit : Type 0 where
  pub sao : SaoParam
  pub tree : Tree
  pub end_of_slice_segment_flag : Bool

-- ---- sizes

-- the side of a node in luma samples: 8, 16, 32 or 64
abbrev pub side : ℕ → ℕ
side size = 8 * 2 ^ size

-- CtDepth, which is 0 at 64x64
abbrev pub depth_of : ℕ → ℕ
depth_of size = 3 - size

-- of 64x64
abbrev pub greatest_size : ℕ
greatest_size = 3

-- log2TrafoSize of the transform units of a coding unit, at most MaxTbLog2SizeY
abbrev pub log2TrafoSize : ℕ → ℕ
log2TrafoSize size = min (size + 3) 5

-- and how many they are
abbrev pub transform_units : ℕ → ℕ
transform_units size = cond (nat_lt size greatest_size) 1 4

-- ---- where all levels are 0

unfoldable pub no_levels : ℕ → List ℤ
no_levels log2 = replicate (2 ^ log2 * 2 ^ log2) (pos 0)

abbrev pub no_unit : ℕ → TransformUnit
no_unit log2 =
    record { luma = no_levels log2; cb = no_levels (log2 - 1); cr = no_levels (log2 - 1) }

unfoldable pub no_units : ℕ → List TransformUnit
no_units size = replicate (transform_units size) (no_unit (log2TrafoSize size))

-- whether any level of some transform units isn't 0: in Cb, in Cr, in all of a unit

abbrev pub any_cb : List TransformUnit → Bool
any_cb [] = false
any_cb (t ∷ units) = any_significant t.cb || any_cb units

abbrev pub any_cr : List TransformUnit → Bool
any_cr [] = false
any_cr (t ∷ units) = any_significant t.cr || any_cr units

abbrev pub any_level : List TransformUnit → Bool
any_level [] = false
any_level (t ∷ units) =
    any_significant t.luma || (any_significant t.cb || (any_significant t.cr || any_level units))
