-- The in-loop filters change nothing of a picture whose planes have one value each.
use Rattle.std.specs.Prelude.{◌≡◌, ℕ, ◌%◌, ◌<◌, List, All}
use Rattle.hv_plan.specs.declared.offsets.SaoParam.{SaoParam}
use Rattle.hv_filter_model.specs.FlatPictures.{flat_picture}
use Rattle.hv_filter_model.specs.OffLaws.{IsOff}
use Rattle.hv_deblock_model.specs.EdgeStrength.{Squares}
use Rattle.hv_deblock_model.specs.Deblocking.{deblocked_picture}
use Rattle.hv_deblock_model.specs.InLoopFilters.{filtered_picture}

-- deblocking, at any quantiser and however the squares are coded
abbrev pub FlatPicturesAreKept : Type 0
FlatPicturesAreKept =
    (qp : ℕ) (squares : Squares) (width height luma cb cr : ℕ) →
    width % 8 ≡ 0 → height % 8 ≡ 0 → luma < 256 → cb < 256 → cr < 256 →
    deblocked_picture qp squares (flat_picture width height luma cb cr) ≡
    flat_picture width height luma cb cr

-- both filters, where no sample is offset
abbrev pub FlatPicturesAreShown : Type 0
FlatPicturesAreShown =
    (qp : ℕ) (squares : Squares) (choices : List SaoParam) (width height luma cb cr : ℕ) →
    0 < width → 0 < height → width % 8 ≡ 0 → height % 8 ≡ 0 →
    luma < 256 → cb < 256 → cr < 256 → All IsOff choices →
    filtered_picture qp squares choices (flat_picture width height luma cb cr) ≡
    flat_picture width height luma cb cr
