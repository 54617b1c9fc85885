-- How many bins the choice of a coding tree block takes in the SAO syntax (7.3.8.3, binarized by
-- 9.3.3), without its merge flags.
use Rattle.std.specs.Prelude.{ℕ, ◌+◌, cond, nat_eq, min, ℤ}
use Rattle.std.specs.Int.RustNames.{unsigned_abs}
use Rattle.hv_plan.specs.declared.offsets.SaoKind.{SaoKind}
use Rattle.hv_plan.specs.declared.offsets.SaoKind.TheVariants.{Off, Band, Edge}
use Rattle.hv_plan.specs.declared.offsets.SaoComponent.{SaoComponent}
use Rattle.hv_plan.specs.declared.offsets.SaoParam.{SaoParam}
use Rattle.hv_filter_model.specs.SampleAdaptiveOffset.{offset_at}

-- sao_type_idx_luma or sao_type_idx_chroma
abbrev pub type_bins : SaoKind → ℕ
type_bins Off = 1
type_bins (Band position) = 2
type_bins (Edge class) = 2

-- sao_eo_class_luma or sao_eo_class_chroma
abbrev pub class_bins : SaoKind → ℕ
class_bins Off = 0
class_bins (Band position) = 0
class_bins (Edge class) = 2

-- sao_band_position
abbrev pub position_bins : SaoKind → ℕ
position_bins Off = 0
position_bins (Band position) = 5
position_bins (Edge class) = 0

-- sao_offset_abs, unary up to 7, and for a band sao_offset_sign, where the offset isn't 0
abbrev pub offset_bins : SaoKind → ℤ → ℕ
offset_bins Off z = 0
offset_bins (Band position) z = min (unsigned_abs z + 1) 7 + cond (nat_eq (unsigned_abs z) 0) 0 1
offset_bins (Edge class) z = min (unsigned_abs z + 1) 7

-- a component's own: offsets, signs and position
abbrev pub own_bins : SaoComponent → ℕ
own_bins c =
    offset_bins c.kind (offset_at c 0) + offset_bins c.kind (offset_at c 1) +
    offset_bins c.kind (offset_at c 2) + offset_bins c.kind (offset_at c 3) +
    position_bins c.kind

abbrev pub luma_bins : SaoComponent → ℕ
luma_bins c = type_bins c.kind + class_bins c.kind + own_bins c

-- Cb and Cr share type and class
abbrev pub chroma_bins : SaoComponent → SaoComponent → ℕ
chroma_bins cb cr = type_bins cb.kind + class_bins cb.kind + own_bins cb + own_bins cr

abbrev pub sao_bins : SaoParam → ℕ
sao_bins param = luma_bins param.luma + chroma_bins param.cb param.cr
