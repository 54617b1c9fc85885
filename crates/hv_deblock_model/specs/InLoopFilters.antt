-- The in-loop filters (8.7.1): a picture is deblocked, and then its samples are offset, from the
-- deblocked picture.
use Rattle.std.specs.Prelude.{ℕ, List}
use Rattle.hv_types.specs.declared.picture.Picture.{Picture}
use Rattle.hv_plan.specs.declared.offsets.SaoParam.{SaoParam}
use Rattle.hv_filter_model.specs.SampleAdaptiveOffset.{sao_picture}
use Rattle.hv_filter_model.specs.OffsetDecision.{picture_offsets}
use Rattle.hv_deblock_model.specs.EdgeStrength.{Squares}
use Rattle.hv_deblock_model.specs.Deblocking.{deblocked_picture}

-- The picture that is shown, from what is decoded before the filters: a picture of this quantiser,
-- whose squares are coded so, and one choice of offsets a coding tree block in raster order. A
-- decoder reads the choices.
abbrev pub filtered_picture : ℕ → Squares → List SaoParam → Picture → Picture
filtered_picture qp squares choices unfiltered =
    sao_picture (deblocked_picture qp squares unfiltered) choices

-- the choices that the encoder makes, at this effort, for this input
abbrev pub made_offsets : ℕ → ℕ → Squares → Picture → Picture → List SaoParam
made_offsets effort qp squares input unfiltered =
    picture_offsets effort qp (deblocked_picture qp squares unfiltered) input

-- and the picture that it shows
abbrev pub shown_picture : ℕ → ℕ → Squares → Picture → Picture → Picture
shown_picture effort qp squares input unfiltered =
    filtered_picture qp squares (made_offsets effort qp squares input unfiltered) unfiltered
