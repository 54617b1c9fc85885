-- Which context variable each bin of residual_coding is decoded with: ctxInc of 9.3.4.2.3 to
-- 9.3.4.2.7.
use Rattle.std.specs.Prelude.{ℕ, zero, suc, ◌+◌, ◌-◌, ◌*◌, ◌/◌, ◌^◌, Bool, true, false, cond, not, nat_eq, nat_lt, ◌||◌, min, List, [], ◌∷◌, slice_index_or}
use Rattle.hv_tables.specs.declared.bins.CtxTable.{CtxTable}
use Rattle.hv_tables.specs.declared.bins.CtxTable.TheVariants.{CodedSub, Sig, Greater1, Greater2}
use Rattle.hv_plan.specs.declared.prediction.Scan.{Scan}
use Rattle.hv_plan.specs.declared.prediction.Scan.TheVariants.{Diagonal, Horizontal, Vertical}
use Rattle.hv_residual_model.specs.UnitBins.{UnitQuestion, context}
use Rattle.hv_residual_model.specs.ScanOrder.{Position}

-- what is known of a transform block before its levels: scanIdx, log2TrafoSize, and whether cIdx is
-- 0
pub record TransformBlock : Type 0 where
  pub scanIdx : Scan
  pub log2TrafoSize : ℕ
  pub is_luma : Bool

-- ---- last_sig_coeff_x_prefix and last_sig_coeff_y_prefix (9.3.4.2.3)

abbrev pub ctxOffset : TransformBlock → ℕ
ctxOffset b = cond b.is_luma (3 * (b.log2TrafoSize - 2) + (b.log2TrafoSize - 1) / 4) 15

abbrev pub ctxShift : TransformBlock → ℕ
ctxShift b = cond b.is_luma ((b.log2TrafoSize + 1) / 4) (b.log2TrafoSize - 2)

abbrev pub last_prefix_at : CtxTable → TransformBlock → ℕ → UnitQuestion
last_prefix_at table b binIdx = context table (binIdx / 2 ^ ctxShift b + ctxOffset b)

-- ---- coded_sub_block_flag (9.3.4.2.4), from those of the sub-blocks at the right and below, which
-- are 0 outside the block

abbrev pub number : Bool → ℕ
number flag = cond flag 1 0

-- csbfCtx
abbrev pub csbfCtx : Bool → Bool → ℕ
csbfCtx right below = number right + number below

abbrev pub coded_sub_block_at : TransformBlock → Bool → Bool → UnitQuestion
coded_sub_block_at b right below =
    context CodedSub (min (csbfCtx right below) 1 + cond b.is_luma 0 2)

-- ---- sig_coeff_flag (9.3.4.2.5), from the flags of the sub-blocks at the right and below, the
-- sub-block S and the position P in it

-- ctxIdxMap, by rows of a block of 4x4
abbrev pub ctxIdxMap : List ℕ
ctxIdxMap =
    0 ∷ 1 ∷ 4 ∷ 5 ∷
    2 ∷ 3 ∷ 4 ∷ 5 ∷
    6 ∷ 6 ∷ 8 ∷ 8 ∷
    7 ∷ 7 ∷ 8 ∷ []

-- by the distance along one side
abbrev pub by_distance : ℕ → ℕ
by_distance d = cond (nat_eq d 0) 2 (cond (nat_eq d 1) 1 0)

-- prevCsbf is 0, 1, 2 and 3
abbrev pub by_neighbours : Bool → Bool → Position → ℕ
by_neighbours false false P = cond (nat_eq (P.x + P.y) 0) 2 (cond (nat_lt (P.x + P.y) 3) 1 0)
by_neighbours true false P = by_distance P.y
by_neighbours false true P = by_distance P.x
by_neighbours true true P = 2

abbrev pub is_diagonal : Scan → Bool
is_diagonal Diagonal = true
is_diagonal Horizontal = false
is_diagonal Vertical = false

-- what is added for the place of the sub-block and the side of the block
abbrev pub added_in_luma : TransformBlock → Position → ℕ
added_in_luma b S =
    cond (nat_lt 0 (S.x + S.y)) 3 0 +
    cond (nat_eq b.log2TrafoSize 3) (cond (is_diagonal b.scanIdx) 9 15) 21

abbrev pub added_in_chroma : TransformBlock → ℕ
added_in_chroma b = cond (nat_eq b.log2TrafoSize 3) 9 12

abbrev pub sigCtx : TransformBlock → Bool → Bool → Position → Position → ℕ
sigCtx b right below S P =
    cond (nat_eq b.log2TrafoSize 2) (slice_index_or ctxIdxMap (4 * P.y + P.x) 0)
    (cond (nat_eq (S.x + S.y + P.x + P.y) 0) 0
    (by_neighbours right below P + cond b.is_luma (added_in_luma b S) (added_in_chroma b)))

abbrev pub sig_coeff_at : TransformBlock → Bool → Bool → Position → Position → UnitQuestion
sig_coeff_at b right below S P =
    context Sig (cond b.is_luma 0 27 + sigCtx b right below S P)

-- ---- coeff_abs_level_greater1_flag (9.3.4.2.6)

-- ctxSet, from the number of the sub-block, and whether a flag was 1 in the last sub-block before
-- it that had such flags
abbrev pub ctxSet : TransformBlock → ℕ → Bool → ℕ
ctxSet b s had_greater1 =
    cond (nat_eq s 0 || not b.is_luma) 0 2 + number had_greater1

-- greater1Ctx behind a flag
abbrev pub next_greater1Ctx : ℕ → Bool → ℕ
next_greater1Ctx greater1Ctx true = 0
next_greater1Ctx zero false = 0
next_greater1Ctx (suc greater1Ctx) false = suc (suc greater1Ctx)

abbrev pub greater1_at : TransformBlock → ℕ → ℕ → UnitQuestion
greater1_at b set greater1Ctx =
    context Greater1 (4 * set + min 3 greater1Ctx + cond b.is_luma 0 16)

-- ---- coeff_abs_level_greater2_flag (9.3.4.2.7)

abbrev pub greater2_at : TransformBlock → ℕ → UnitQuestion
greater2_at b set = context Greater2 (set + cond b.is_luma 0 4)
