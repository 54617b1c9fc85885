-- Where sample adaptive offset is off, nothing changes.
use Rattle.std.specs.Prelude.{◌≡◌, List, All}
use Rattle.hv_types.specs.declared.picture.Picture.{Picture}
use Rattle.hv_types.specs.Samples.{IsWhole}
use Rattle.hv_types.specs.Video.{HasBytes}
use Rattle.hv_plan.specs.declared.offsets.SaoKind.TheVariants.{Off}
use Rattle.hv_plan.specs.declared.offsets.SaoParam.{SaoParam}
use Rattle.hv_filter_model.specs.SampleAdaptiveOffset.{sao_picture}

-- of each component
pub record IsOff (choice : SaoParam) : Type 0 where
  pub luma : choice.luma.kind ≡ Off
  pub cb : choice.cb.kind ≡ Off
  pub cr : choice.cr.kind ≡ Off

-- each plane has a sample at each place
pub record HasWholePlanes (picture : Picture) : Type 0 where
  pub luma : IsWhole picture.luma
  pub cb : IsWhole picture.cb
  pub cr : IsWhole picture.cr

-- of bytes, whatever their sides; a block without a choice is off too
abbrev pub OffChangesNothing : Type 0
OffChangesNothing =
    (picture : Picture) (choices : List SaoParam) → HasWholePlanes picture → HasBytes picture →
    All IsOff choices → sao_picture picture choices ≡ picture
